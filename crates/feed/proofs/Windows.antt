-- A piece is decided by 4 bytes, so that a window of 4 bytes is read as it will be with what follows it.
use Prim.Native.Nat.{ℕ, ◌+◌, ◌≤◌, ◌<◌}
use mathlib.Core.Path.{◌≡◌, refl, ◌∙◌}
use mathlib.Core.Bool.{Bool}
use mathlib.Core.List.{List, [], ◌∷◌, ◌++◌}
use lib.Dec.{lit≤}
use lib.ListN.{length, set, take, drop}
use lib.Seq.{take-suc-set, take-append-le, drop-append-le}
use native.Mathlib.Omega.{arith}
use native.Mathlib.Numerals.{add-one}
use Rattle.utf8.specs.Text.{Range, Rest, none, then, rest_of, agree, piece_after, piece_of, size_of, shown}
use Rattle.utf8.specs.declared.Piece.{Piece}
use Rattle.utf8.specs.declared.Piece.TheVariants.{End, WellFormed, IllFormed}
use Rattle.utf8.proofs.Pieces.{in_cases, size_within}
use Rattle.feed.specs.Fed.{written_as, shown_as}
use Rattle.feed.proofs.Reading.{written_next}

-- a byte after the n bytes of a window
pub one_more : (w : List ℕ) (n x : ℕ) → n < length w → take (n + 1) (set w n x) ≡ take n w ++ (x ∷ [])
one_more w n x h = rw add-one (take-suc-set w n x h)

Short : Rest → Type 0
Short none = Unit
Short (then rs) = length rs ≤ 3

-- no row of the table has more than 3 bytes after the first
short : (x : ℕ) → Short (rest_of x)
unfolding rest_of Short
short x =
    in_cases Short (λ h k. lit≤ tt)
    (in_cases Short (λ h k. lit≤ tt)
    (in_cases Short (λ h k. lit≤ tt)
    (in_cases Short (λ h k. lit≤ tt)
    (in_cases Short (λ h k. lit≤ tt)
    (in_cases Short (λ h k. lit≤ tt)
    (in_cases Short (λ h k. lit≤ tt)
    (in_cases Short (λ h k. lit≤ tt) (in_cases Short (λ h k. lit≤ tt) tt))))))))

agree_front : (rs : List Range) (b x : List ℕ) → length rs ≤ length b → agree rs (b ++ x) ≡ agree rs b
unfolding agree
agree_front [] b x h = refl
agree_front (r ∷ rs) [] x h = absurd (omega arith)
agree_front (r ∷ rs) (c ∷ b) x h = rw (agree_front rs b x (omega arith))

pub piece_front : (w x : List ℕ) → 4 ≤ length w → piece_of (w ++ x) ≡ piece_of w
unfolding piece_of Short
piece_front [] x h = absurd (omega arith)
piece_front (a ∷ w) x h = of (rest_of a) (short a)
  where
    of : (r : Rest) → Short r → piece_after r (w ++ x) ≡ piece_after r w
    of none s = refl
    of (then rs) s = rw (agree_front rs w x (omega arith))

shown_front : (w x : List ℕ) (p : Piece) → size_of p ≤ length w → shown p (w ++ x) ≡ shown p w
shown_front w x End h = refl
shown_front w x (WellFormed n) h = take-append-le n w x h
shown_front w x (IllFormed n) h = refl

-- the first piece of a window of 4 bytes, and the rest of it with what follows
pub written_front : (marks : Bool) (w x : List ℕ) → 4 ≤ length w → written_as marks (w ++ x) ≡ shown_as marks (piece_of w) w ++ written_as marks (drop (size_of (piece_of w)) w ++ x)
written_front marks w x h =
    written_next marks (w ++ x) ∙ rw (piece_front w x h, shown_front w x (piece_of w) (size_within w), drop-append-le (size_of (piece_of w)) w x (size_within w))
