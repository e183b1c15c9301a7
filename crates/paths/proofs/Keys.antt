-- Names compared by their keys, and what the lossy reading of an ASCII name is.
use Prim.Native.Nat.{ℕ, zero, suc, ◌+◌, ◌≤◌, ◌<◌}
use mathlib.Core.Path.{◌≡◌, refl, sym, ap, ◌∙◌}
use mathlib.Core.Bool.{Bool, true, false, not}
use mathlib.Core.List.{List, [], ◌∷◌, ◌++◌}
use lib.Dec.{leb}
use lib.ListN.{length, get_or, drop, drop_of_length-le}
use lib.Seq.{drop-cons}
use native.Mathlib.Omega.{arith}
use native.Mathlib.Numerals.{add-one}
use Rattle.error.specs.Answer.{pick, if_le}
use Rattle.error.proofs.Laws.{at_most_lem, above, same, other, le_cases}
use Rattle.utf8.specs.Text.{same_bytes, piece_of, size_of, shown, lossy, ascii}
use Rattle.utf8.specs.declared.Piece.{Piece}
use Rattle.utf8.specs.declared.Piece.TheVariants.{End, WellFormed, IllFormed}
use Rattle.utf8.proofs.Equal.{equal_same, unlike_lengths}
use Rattle.utf8.proofs.Ascii.{one_piece, ascii_lossy}
use Rattle.utf8.proofs.Pieces.{size_pos}
use borrow.Author.Tests.{not-false}
use Rattle.utf8.proofs.Reading.{lossy_end, lossy_next}
use Rattle.paths.specs.Names.{wide, folded, folded_key, same_keys}

-- a name is wide, or ASCII
pub wide_ascii : (b : List ℕ) (k : Bool) → k ≡ ascii b → not k ≡ wide b
unfolding wide ascii if_le
wide_ascii [] k e = rw e
wide_ascii (x ∷ b) k e = rw e (of (wide_ascii b (ascii b) refl) (leb x 127))
  where
    of : not (ascii b) ≡ wide b → (d : Bool) → not (pick d (ascii b) false) ≡ pick d (wide b) true
    of h true = h
    of h false = refl

-- a key is as long as its name
key_length : (c n : Bool) (b : List ℕ) → length (folded_key c n b) ≡ length b
unfolding folded_key
key_length c n [] = refl
key_length c n (x ∷ b) = ap suc (key_length c n b)

module _ (c n : Bool) (a b : List ℕ) where
  pub key_lengths : (length a ≡ length b → ⊥) → false ≡ same_keys c n a b
  unfolding same_keys
  key_lengths h = unlike_lengths _ _ (λ e. h (sym (key_length c n a) ∙ e ∙ key_length c n b))

  -- the turns of the loop that compares them
  module _ (l : length a ≡ length b) (i : ℕ) (whole : Bool) (p : same_keys c n (drop i a) (drop i b) ≡ whole) where
    pub key_done : length a ≤ i → true ≡ whole
    unfolding same_keys folded_key
    key_done h =
        let k : length b ≤ i = omega arith in
        sym (equal_same []) ∙ (rw (drop_of_length-le a h, drop_of_length-le b k) at p)

    module _ (h : i < length a) (x y : ℕ) (e : x ≡ folded c (get_or a i 0)) (f : y ≡ folded c (get_or b i 0)) where
      in_both : same_bytes (x ∷ folded_key c n (drop (suc i) a)) (y ∷ folded_key c n (drop (suc i) b)) ≡ whole
      unfolding same_keys folded_key
      in_both = let k : i < length b = omega arith in rw (e, f) (rw (drop-cons a i 0 h, drop-cons b i 0 k) at p)

      pub key_stops : (x ≡ y → ⊥) → false ≡ whole
      unfolding same_bytes
      key_stops k = other _ _ _ _ _ k refl ∙ in_both

      pub key_goes : x ≡ y → same_keys c n (drop (i + 1) a) (drop (i + 1) b) ≡ whole
      unfolding same_bytes same_keys
      key_goes k = rw add-one (same _ _ _ _ _ k refl ∙ in_both)

ascii_first : (x : ℕ) (b : List ℕ) → x ≤ 127 → lossy (x ∷ b) ≡ x ∷ lossy b
ascii_first x b h = rw (lossy_next (x ∷ b), one_piece x b h)

-- what reads any other character begins with one above U+007F
wide_piece : (x : ℕ) (b y : List ℕ) (p : Piece) → piece_of (x ∷ b) ≡ p → 127 < x → wide (shown p (x ∷ b) ++ y) ≡ true
unfolding wide if_le
wide_piece x b y End e h = absurd (omega (arith, size_pos (x ∷ b) (omega arith), ap size_of e))
wide_piece x b y (WellFormed zero) e h = absurd (omega (arith, size_pos (x ∷ b) (omega arith), ap size_of e))
wide_piece x b y (WellFormed (suc n)) e h = sym (above _ _ _ _ _ h refl)
wide_piece x b y (IllFormed n) e h = refl

-- a name and its lossy reading are wide together
pub wide_reading : (b : List ℕ) → wide (lossy b) ≡ wide b
unfolding wide
wide_reading [] = ap wide lossy_end
wide_reading (x ∷ b) =
    le_cases (λ z. wide (lossy (x ∷ b)) ≡ z)
    (λ h. ap wide (ascii_first x b h) ∙ sym (at_most_lem _ _ _ _ _ h refl) ∙ wide_reading b)
    (λ h. ap wide (lossy_next (x ∷ b)) ∙ wide_piece x b _ (piece_of (x ∷ b)) refl h)

-- an ASCII name reads as itself
pub ascii_reading : (b : List ℕ) → wide b ≡ false → lossy b ≡ b
ascii_reading b e = ascii_lossy b (not-false (ascii b) (wide_ascii b (ascii b) refl ∙ e))
