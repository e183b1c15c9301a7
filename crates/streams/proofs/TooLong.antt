-- Copies of a byte that are more than the room, or past the buffer's end.
use Prim.Native.Nat.{ℕ, zero, suc, ◌+◌, ◌-◌, ◌*◌, ◌/◌, ◌≤◌, ◌<◌, min}
use mathlib.Core.Path.{◌≡◌, refl, sym, ap, ◌∙◌}
use mathlib.Core.List.{List, [], ◌∷◌}
use mathlib.Core.Logic.{◌⊎◌, inl, inr}
use native.Mathlib.Omega.{arith}
use borrow.Rule.Slice.PartMut.{put_mid}
use lib.ListN.{length, set, replicate, length-replicate, length-set}
use lib.Seq.{sets, set_out}
use Rattle.error.specs.Answer.{if_le, Answer, Ok}
use Rattle.error.specs.declared.Refusal.TheVariants.{BufferTooShort}
use Rattle.error.proofs.Laws.{at_most_lem}
use Rattle.text.specs.Output.{Output, at, refused, put, puts, output_of}
use Rattle.text.specs.Words.{glyph, pairs}
use Rattle.text.proofs.Loops.{copied}
use Rattle.text.proofs.Whole.{fits, full}
use Rattle.text.proofs.Writing.{puts_refused}
use Rattle.extents.proofs.Verdicts.{le_or_gt}

-- a text that the room does not have is refused, also where it would begin past the room
pub too_long : (room : ℕ) (t b : List ℕ) (k : ℕ) → room - k < length t → puts room t (at b k) ≡ refused BufferTooShort
unfolding puts put
too_long room [] b k h = absurd (omega arith)
too_long room (x ∷ t) b k h = of (le_or_gt k room)
  where
    of : (k ≤ room) ⊎ (room < k) → puts room (x ∷ t) (at b k) ≡ refused BufferTooShort
    of (inl l) = full room (x ∷ t) b k l (omega arith)
    of (inr g) =
        let q : refused BufferTooShort ≡ if_le room k (refused BufferTooShort) (at (set b k x) (k + 1)) = at_most_lem _ _ _ _ _ (omega arith) refl in
        rw (← q) (puts_refused room t BufferTooShort)

-- copies past the buffer's end are not stored
copies_past : (o : List ℕ) (a n b : ℕ) → length o ≤ a → o ≡ sets o a (replicate n b)
copies_past o a zero b h = refl
copies_past o a (suc n) b h = copies_past o (suc a) n b (omega arith) ∙ ap (λ (x : List ℕ). sets x (suc a) (replicate n b)) (sym (set_out o a b h))

-- so those that lie in the buffer are all that it holds of them
copies_split : (o : List ℕ) (a n m b : ℕ) → m ≤ n → a + m ≡ length o → sets o a (replicate m b) ≡ sets o a (replicate n b)
copies_split o a n zero b h e = copies_past o a n b (omega arith)
copies_split o a zero (suc m) b h e = absurd (omega arith)
copies_split o a (suc n) (suc m) b h e = copies_split (set o a b) (suc a) n m b (omega arith) (rw length-set (omega arith))

module _ (o : List ℕ) (a n b : ℕ) where
  pub copies_stored : (y : List ℕ) (k : ℕ) → a + k ≡ min (a + n) (length o) → a ≤ length o → y ≡ replicate k b → put_mid a k o y ≡ sets o a (replicate n b)
  copies_stored y k e h q = of (le_or_gt (a + n) (length o))
    where
      of : (a + n ≤ length o) ⊎ (length o < a + n) → put_mid a k o y ≡ sets o a (replicate n b)
      of (inl l) = let u : k ≡ n = omega arith in rw u (copied a n o y (replicate n b) (sym (length-replicate n b)) (rw u at q) (rw length-replicate l))
      of (inr g) = copied a k o y (replicate k b) (sym (length-replicate k b)) q (rw length-replicate (omega arith)) ∙ copies_split o a n k b (omega arith) (omega arith)

  pub copies_none : min (a + n) (length o) ≤ a → o ≡ sets o a (replicate n b)
  copies_none h = of (le_or_gt n 0)
    where
      of : (n ≤ 0) ⊎ (0 < n) → o ≡ sets o a (replicate n b)
      of (inl l) = let u : n ≡ 0 = omega arith in rw u
      of (inr g) = copies_past o a n b (omega arith)

module _ (room n k b : ℕ) (p : Answer ℕ) (o : List ℕ) (q : p ≡ Ok k) where
  pub copies_long : room - k < n → refused BufferTooShort ≡ puts room (replicate n b) (output_of p o)
  copies_long h = rw q (sym (too_long room (replicate n b) o k (rw length-replicate h)))

  pub copies_fit : n ≤ room - k → (x : List ℕ) → x ≡ sets o k (replicate n b) → at x (k + n) ≡ puts room (replicate n b) (output_of p o)
  unfolding puts
  copies_fit h x e = rw (q, e) (of (le_or_gt k room))
    where
      of : (k ≤ room) ⊎ (room < k) → at (sets o k (replicate n b)) (k + n) ≡ puts room (replicate n b) (at o k)
      of (inl l) = rw length-replicate at (sym (fits room (replicate n b) o k (rw length-replicate (omega arith))))
      of (inr g) = let u : n ≡ 0 = omega arith in let v : k + 0 ≡ k = omega arith in rw (u, v)

-- zeros in hexadecimal
pairs_zeros : (n m : ℕ) → m ≡ 2 * n → replicate m 48 ≡ pairs (replicate n 0) []
unfolding pairs glyph if_le
pairs_zeros zero m e = let u : m ≡ 0 = omega arith in rw u
pairs_zeros (suc n) m e = let u : m ≡ suc (suc (2 * n)) = omega arith in rw (u, pairs_zeros n (2 * n) refl)

pub zeros_long : (room n k : ℕ) (p : Answer ℕ) (o : List ℕ) → p ≡ Ok k → room / 2 < n → refused BufferTooShort ≡ puts room (pairs (replicate n 0) []) (output_of p o)
zeros_long room n k p o q h = rw (← pairs_zeros n (2 * n) refl) (copies_long room (2 * n) k 48 p o q (omega arith))

pub zeros_two : (room n : ℕ) (o z : Output) → z ≡ puts room (replicate (2 * n) 48) o → z ≡ puts room (pairs (replicate n 0) []) o
zeros_two room n o z h = rw (← pairs_zeros n (2 * n) refl) h
