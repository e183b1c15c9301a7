-- A text of ASCII characters reads as itself.
use Prim.Native.Nat.{ℕ, ◌+◌, ◌≤◌, ◌<◌, max}
use mathlib.Core.Path.{◌≡◌, refl, sym, ◌∙◌}
use mathlib.Core.Bool.{Bool, true, false}
use mathlib.Core.List.{List, [], ◌∷◌}
use lib.Dec.{leb}
use lib.ListN.{length, get_or, drop, drop_of_length-le}
use lib.Seq.{drop-cons}
use native.Mathlib.Omega.{arith}
use native.Mathlib.Nat.{zero-add}
use native.Mathlib.Numerals.{add-one}
use borrow.Author.Rules.{rules}
use Rattle.error.specs.Answer.{pick, if_le}
use Rattle.error.proofs.Laws.{at_most_lem, above, le_cases}
use Rattle.utf8.specs.Text.{then, rest_of, piece_of, lossy, replaced, ascii}
use Rattle.utf8.specs.declared.Piece.TheVariants.{WellFormed}
use Rattle.utf8.proofs.Pieces.{inside, one_byte_lem}
use Rattle.utf8.proofs.Reading.{lossy_end, lossy_next, replaced_next}

pub one_piece : (x : ℕ) (b : List ℕ) → x ≤ 0x7F → piece_of (x ∷ b) ≡ WellFormed 1
unfolding piece_of rest_of
one_piece x b h =
    let e : then [] ≡ rest_of x = inside x 0 0x7F _ _ _ (omega arith) h refl in
    rw (← e) (sym (one_byte_lem b))

pub ascii_lossy : (b : List ℕ) → ascii b ≡ true → lossy b ≡ b
unfolding ascii
ascii_lossy [] = λ e. lossy_end
ascii_lossy (x ∷ b) = le_cases (λ (t : Bool). t ≡ true → lossy (x ∷ b) ≡ x ∷ b)
    (λ h e. rw (lossy_next (x ∷ b), one_piece x b h, ascii_lossy b e))
    (λ h e. absurd (let z : ◌≡◌ {A = ℕ} 0 1 = cc in omega arith))

-- nothing is replaced of an ASCII character
pub ascii_unreplaced : (x : ℕ) (b : List ℕ) → x ≤ 0x7F → replaced (x ∷ b) ≡ replaced b
ascii_unreplaced x b h = rw (replaced_next (x ∷ b), one_piece x b h) (zero-add (replaced b))

-- the turns of the test, t being the greatest byte before i
unfoldable pub ascii_from : ℕ → List ℕ → Bool
ascii_from t b = if_le t 0x7F (ascii b) false

pub ascii_starts : (b : List ℕ) → ascii_from 0 (drop 0 b) ≡ ascii b
unfolding ascii_from
ascii_starts b = sym (at_most_lem _ _ _ _ _ (omega arith) refl)

module _ (b : List ℕ) (i t : ℕ) (w : Bool) (p : ascii_from t (drop i b) ≡ w) where
  pub ascii_end : length b ≤ i → leb t 0x7F ≡ w
  unfolding ascii_from ascii if_le
  ascii_end h = of (leb t 0x7F) (rw (drop_of_length-le b h) at p)
    where
      of : (d : Bool) → pick d true false ≡ w → d ≡ w
      of true e = e
      of false e = e

  module _ (h : i < length b) where
    next_byte : ascii_from t (get_or b i 0 ∷ drop (i + 1) b) ≡ w
    next_byte = rw add-one (rw (drop-cons b i 0 h) at p)

    ascii_higher : t < get_or b i 0 → ascii_from (get_or b i 0) (drop (i + 1) b) ≡ w
    unfolding ascii_from ascii
    ascii_higher k = le_cases (λ (z : Bool). if_le t 0x7F z false ≡ w → z ≡ w) (λ l e. at_most_lem _ _ _ _ _ (omega arith) refl ∙ e) (λ l e. of t e) next_byte
      where
        of : (t : ℕ) → if_le t 0x7F false false ≡ w → false ≡ w
        of t e = le_cases (λ (z : Bool). z ≡ w → false ≡ w) (λ l e. e) (λ l e. e) e

    ascii_lower : get_or b i 0 ≤ t → ascii_from t (drop (i + 1) b) ≡ w
    unfolding ascii_from ascii
    ascii_lower k = le_cases (λ (z : Bool). if_le t 0x7F (if_le (get_or b i 0) 0x7F (ascii (drop (i + 1) b)) false) false ≡ w → z ≡ w)
        (λ l e. at_most_lem _ _ _ _ _ (omega arith) refl ∙ at_most_lem _ _ _ _ _ l refl ∙ e)
        (λ l e. above _ _ _ _ _ l refl ∙ e) next_byte

    pub ascii_next : ascii_from (max t (get_or b i 0)) (drop (i + 1) b) ≡ w
    ascii_next =
        let e : max t (get_or b i 0) ≡ if_le (get_or b i 0) t t (get_or b i 0) = le_cases (λ y. max t (get_or b i 0) ≡ y) (λ h. omega arith) (λ h. omega arith) in
        rw e (le_cases (λ y. ascii_from y (drop (i + 1) b) ≡ w) ascii_lower ascii_higher)

pub ruleset plain = (rules, ascii_starts, ascii_end, ascii_next)
