-- The number of a sequence by its bytes, and the character at the head of a text.
use Prim.Native.Nat.{ℕ, zero, suc, ◌+◌, ◌*◌, ◌%◌, ◌≤◌}
use mathlib.Core.Path.{◌≡◌, refl, sym, ap, ◌∙◌}
use mathlib.Core.Bool.{Bool, true, false, not}
use mathlib.Core.List.{List, [], ◌∷◌}
use borrow.Author.Tests.{leb-true, not-false}
use lib.Dec.{leb}
use lib.ListN.{length, get_or, take}
use native.Mathlib.Omega.{arith}
use Rattle.error.proofs.Laws.{same}
use Rattle.utf8.specs.Text.{Range, tail, then, rest_of, agree, piece_of, size_of}
use Rattle.utf8.specs.Characters.{scalar_of}
use Rattle.utf8.specs.declared.Piece.{Piece}
use Rattle.utf8.specs.declared.Piece.TheVariants.{End, WellFormed, IllFormed}
use Rattle.utf8.proofs.Pieces.{inside, beyond, size_within}
use Rattle.keys.specs.Told.{character_in, character_of}
use Rattle.keys.specs.declared.characters.Character.{Character}
use Rattle.keys.specs.declared.characters.Character.TheVariants as character

module _ (n : ℕ) where
  pub scalar_none : (b : List ℕ) → n ≡ 0 → 0 ≡ scalar_of (take n b)
  unfolding scalar_of
  scalar_none b e = rw e

  one : (b : List ℕ) → n ≤ length b → n ≡ 1 → get_or b 0 0 ≡ scalar_of (take n b)
  unfolding scalar_of
  one [] h e = absurd (omega arith)
  one (x ∷ b) h e = rw e

  pub scalar_one : (b : List ℕ) (x : ℕ) → n ≤ length b → n ≡ 1 → x ≡ get_or b 0 0 → x ≡ scalar_of (take n b)
  scalar_one b x h e k = k ∙ one b h e

  pub scalar_two : (b : List ℕ) → n ≤ length b → n ≡ 2 → get_or b 0 0 % 32 * 64 + get_or b 1 0 % 64 ≡ scalar_of (take n b)
  unfolding scalar_of
  scalar_two [] h e = absurd (omega arith)
  scalar_two (x ∷ []) h e = absurd (omega arith)
  scalar_two (x ∷ y ∷ b) h e = rw e

  pub scalar_three : (b : List ℕ) → n ≤ length b → n ≡ 3 → get_or b 0 0 % 16 * 4096 + get_or b 1 0 % 64 * 64 + get_or b 2 0 % 64 ≡ scalar_of (take n b)
  unfolding scalar_of
  scalar_three [] h e = absurd (omega arith)
  scalar_three (x ∷ []) h e = absurd (omega arith)
  scalar_three (x ∷ y ∷ []) h e = absurd (omega arith)
  scalar_three (x ∷ y ∷ z ∷ b) h e = rw e

-- what `take` gives of four bytes or more
four_of : (x y z w n : ℕ) (b : List ℕ) → 4 ≤ n → (m : ℕ) × (n ≡ suc (suc (suc (suc m))))
four_of x y z w zero b h = absurd (omega arith)
four_of x y z w (suc zero) b h = absurd (omega arith)
four_of x y z w (suc (suc zero)) b h = absurd (omega arith)
four_of x y z w (suc (suc (suc zero))) b h = absurd (omega arith)
four_of x y z w (suc (suc (suc (suc n)))) b h = (n, refl)

four : (n : ℕ) (b : List ℕ) → n ≤ length b → 4 ≤ n → get_or b 0 0 % 8 * 262144 + get_or b 1 0 % 64 * 4096 + get_or b 2 0 % 64 * 64 + get_or b 3 0 % 64 ≡ scalar_of (take n b)
unfolding scalar_of
four n [] h k = absurd (omega arith)
four n (x ∷ []) h k = absurd (omega arith)
four n (x ∷ y ∷ []) h k = absurd (omega arith)
four n (x ∷ y ∷ z ∷ []) h k = absurd (omega arith)
four n (x ∷ y ∷ z ∷ w ∷ b) h k = rw (four_of x y z w n b k).1

pub scalar_four : (n : ℕ) (b : List ℕ) → n ≤ length b → (n ≡ 0 → ⊥) → (n ≡ 1 → ⊥) → (n ≡ 2 → ⊥) → (n ≡ 3 → ⊥)
    → get_or b 0 0 % 8 * 262144 + get_or b 1 0 % 64 * 4096 + get_or b 2 0 % 64 * 64 + get_or b 3 0 % 64 ≡ scalar_of (take n b)
scalar_four n b h p q r s = four n b h (omega arith)

module _ (b : List ℕ) (p : Piece) (e : p ≡ piece_of b) where
  pub piece_fits : (n : ℕ) → p ≡ WellFormed n → n ≤ length b
  piece_fits n h = let s : size_of (piece_of b) ≡ n = ap size_of (sym e ∙ h) in omega (arith, size_within b)

  pub at_end : p ≡ End → character.End ≡ character_of b
  at_end h = ap (λ z. character_in z b) (sym h ∙ e)

  pub at_whole : (n x : ℕ) → p ≡ WellFormed n → x ≡ scalar_of (take n b) → character.At x n ≡ character_of b
  at_whole n x h k = ap (λ z. character.At z n) k ∙ ap (λ z. character_in z b) (sym h ∙ e)

  pub at_part : (n : ℕ) → p ≡ IllFormed n → character.At 0xFFFD n ≡ character_of b
  at_part n h = ap (λ z. character_in z b) (sym h ∙ e)

-- a sequence of two bytes, and one of three whose second byte is any tail
tail_agrees : (rs : List Range) (y : ℕ) (b : List ℕ) (n : ℕ) → 0x80 ≤ y → y ≤ 0xBF → n ≡ agree rs b → suc n ≡ agree (tail ∷ rs) (y ∷ b)
unfolding agree
tail_agrees rs y b n h k e = inside _ _ _ _ _ _ h k (ap suc e)

two_row : (x : ℕ) → 0xC2 ≤ x → x ≤ 0xDF → then (tail ∷ []) ≡ rest_of x
unfolding rest_of
two_row x h k = beyond _ _ _ _ _ _ (omega arith) (omega arith) (inside _ _ _ _ _ _ h k refl)

three_row : (x : ℕ) → 0xE1 ≤ x → x ≤ 0xEC → then (tail ∷ tail ∷ []) ≡ rest_of x
unfolding rest_of
three_row x h k =
    beyond _ _ _ _ _ _ (omega arith) (omega arith) (beyond _ _ _ _ _ _ (omega arith) (omega arith) (beyond _ _ _ _ _ _ (omega arith) (omega arith) (inside _ _ _ _ _ _ h k refl)))

two_piece : (b : List ℕ) → 2 ≤ length b → 0xC2 ≤ get_or b 0 0 → get_or b 0 0 ≤ 0xDF → 0x80 ≤ get_or b 1 0 → get_or b 1 0 ≤ 0xBF → WellFormed 2 ≡ piece_of b
unfolding piece_of agree
two_piece [] l h k p q = absurd (omega arith)
two_piece (x ∷ []) l h k p q = absurd (omega arith)
two_piece (x ∷ y ∷ b) l h k p q = rw (← two_row x h k) (same _ _ _ _ _ (sym (tail_agrees [] y b 0 p q refl)) refl)

three_piece : (b : List ℕ) → 3 ≤ length b → 0xE1 ≤ get_or b 0 0 → get_or b 0 0 ≤ 0xEC → 0x80 ≤ get_or b 1 0 → get_or b 1 0 ≤ 0xBF → 0x80 ≤ get_or b 2 0 → get_or b 2 0 ≤ 0xBF → WellFormed 3 ≡ piece_of b
unfolding piece_of agree
three_piece [] l h k p q r s = absurd (omega arith)
three_piece (x ∷ []) l h k p q r s = absurd (omega arith)
three_piece (x ∷ y ∷ []) l h k p q r s = absurd (omega arith)
three_piece (x ∷ y ∷ z ∷ b) l h k p q r s = rw (← three_row x h k) (same _ _ _ _ _ (sym (tail_agrees (tail ∷ []) y (z ∷ b) 1 p q (tail_agrees [] z b 0 r s refl))) refl)

pub never_tail : (x : ℕ) → ◌≡◌ {A = Bool} false true → (0x80 ≤ x) × (x ≤ 0xBF)
never_tail x e = absurd (let z : ◌≡◌ {A = ℕ} 0 1 = cc in omega arith)

pub last_tail : (x : ℕ) → 0x80 ≤ x → leb x 0xBF ≡ true → (0x80 ≤ x) × (x ≤ 0xBF)
last_tail x h e = (h, leb-true x 0xBF e)

-- what the test of a byte says
abbrev Tail : Bool → ℕ → Type 0
Tail d y = d ≡ true → (0x80 ≤ y) × (y ≤ 0xBF)

pub at_two : (b : List ℕ) (x : ℕ) (d : Bool) → 2 ≤ length b → 0xC2 ≤ get_or b 0 0 → get_or b 0 0 ≤ 0xDF → Tail d (get_or b 1 0) → d ≡ true → x ≡ scalar_of (take 2 b) → character.At x 2 ≡ character_of b
at_two b x d l h k t e = at_whole b _ (two_piece b l h k (t e).0 (t e).1) 2 x refl

pub at_three : (b : List ℕ) (x : ℕ) (d g : Bool) → 3 ≤ length b → (0xE1 ≤ get_or b 0 0) × (get_or b 0 0 ≤ 0xEC) → Tail d (get_or b 1 0) → not d ≡ false → Tail g (get_or b 2 0) → not g ≡ false
    → x ≡ scalar_of (take 3 b) → character.At x 3 ≡ character_of b
at_three b x d g l h t e u f =
    let v = t (not-false d e) in
    let w = u (not-false g f) in
    at_whole b _ (three_piece b l h.0 h.1 v.0 v.1 w.0 w.1) 3 x refl
