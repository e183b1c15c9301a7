-- The pieces of a text, and how the loop over them goes on: the reading of what is left, written from here, is the whole, `w`.
use Prim.Native.Nat.{ℕ, ◌-◌, ◌≤◌, ◌<◌}
use mathlib.Core.Path.{◌≡◌, refl, sym, ap, ◌∙◌}
use mathlib.Core.Bool.{Bool, true, false}
use mathlib.Core.List.{List, [], ◌∷◌, ◌++◌}
use lib.ListN.{length, take, drop, replicate, length-drop, replicate-append-replicate}
use lib.Seq.{length-take-le}
use native.Mathlib.Omega.{arith}
use Rattle.error.specs.Answer.{pick}
use Rattle.utf8.specs.Text.{piece_of, size_of, one_if_replaced, replacement}
use Rattle.utf8.specs.declared.Piece.{Piece}
use Rattle.utf8.specs.declared.Piece.TheVariants.{End, WellFormed, IllFormed}
use Rattle.utf8.proofs.Pieces.{size_pos, size_within}
use Rattle.utf8.proofs.Reading.{past, past_is, lossy_end, lossy_next, replaced_end, replaced_next}
use Rattle.error.specs.Answer.{Answer, Ok, Err}
use Rattle.error.specs.declared.Refusal.{Refusal}
use Rattle.text.specs.Output.{Output, at, refused, output_of, puts}
use Rattle.text.proofs.Writing.{puts_append, stopped}
use Rattle.feed.specs.Fed.{written_as, shown_as}

pub written_end : (marks : Bool) → written_as marks [] ≡ []
unfolding written_as
written_end true = rw replaced_end
written_end false = lossy_end

pub written_next : (marks : Bool) (b : List ℕ) → written_as marks b ≡ shown_as marks (piece_of b) b ++ written_as marks (drop (size_of (piece_of b)) b)
unfolding written_as
written_next true b = ap (λ (n : ℕ). replicate n 0) (replaced_next b) ∙ sym (replicate-append-replicate (one_if_replaced (piece_of b)) _ 0)
written_next false b = lossy_next b

nothing_put : (room : ℕ) (o : Output) (marks : Bool) → o ≡ puts room (pick marks [] []) o
unfolding puts
nothing_put room o true = refl
nothing_put room o false = refl

-- one piece r of b
module _ (marks : Bool) (room : ℕ) (o : Output) (b : List ℕ) (r : Piece) (e : r ≡ piece_of b) where
  pub none_written : r ≡ End → o ≡ puts room (shown_as marks (piece_of b) b) o
  none_written k = rw (← e, k) (nothing_put room o marks)

  module _ (z : Output) (n : ℕ) where
    pub whole_written : r ≡ WellFormed n → z ≡ puts room (pick marks [] (take n b)) o → z ≡ puts room (shown_as marks (piece_of b) b) o
    whole_written k h = rw (← e, k) h

    pub part_written : r ≡ IllFormed n → z ≡ puts room (pick marks (0 ∷ []) replacement) o → z ≡ puts room (shown_as marks (piece_of b) b) o
    part_written k h = rw (← e, k) h

module _ (b : List ℕ) (r : Piece) (e : r ≡ piece_of b) where
  pub none_taken : r ≡ End → 0 ≡ size_of (piece_of b)
  none_taken k = rw (← e, k)

  module _ (n : ℕ) where
    pub whole_taken : r ≡ WellFormed n → n ≡ size_of (piece_of b)
    whole_taken k = rw (← e, k)

    pub part_taken : r ≡ IllFormed n → n ≡ size_of (piece_of b)
    part_taken k = rw (← e, k)

    pub whole_within : r ≡ WellFormed n → n ≤ length b
    whole_within k = omega (arith, whole_taken k, size_within b)

    pub whole_count : r ≡ WellFormed n → n ≡ length (take n b)
    whole_count k = sym (length-take-le n b (whole_within k))

-- the piece at the head of b, of n bytes
module _ (b : List ℕ) (n : ℕ) (e : n ≡ size_of (piece_of b)) where
  pub piece_within : n ≤ length b
  piece_within = omega (arith, size_within b)

  pub piece_less : (length b ≡ 0 → ⊥) → length (past n b) < length b
  piece_less h =
      let l : length (past n b) ≡ length b - n = rw (past_is n b) (length-drop n b) in
      omega (arith, size_within b, size_pos b (omega arith))

  -- the reading of what is left, written from here, is the whole, `w`
  module _ (marks : Bool) (room : ℕ) (o w : Output) (h : puts room (written_as marks b) o ≡ w) where
    next : (p : Output) → p ≡ puts room (shown_as marks (piece_of b) b) o → puts room (written_as marks (past n b)) p ≡ w
    next p k =
        let q : written_as marks b ≡ shown_as marks (piece_of b) b ++ written_as marks (past n b) = written_next marks b ∙ rw (past_is n b, e) in
        rw k (sym (puts_append room _ _ o) ∙ (rw q at h))

    module _ (q : Answer ℕ) (c : List ℕ) (k : output_of q c ≡ puts room (shown_as marks (piece_of b) b) o) where
      pub piece_got : (m : ℕ) → q ≡ Ok m → puts room (written_as marks (past n b)) (at c m) ≡ w
      piece_got m f = next (at c m) (rw f at k)

      pub piece_refused : (x : Refusal) → q ≡ Err x → refused x ≡ w
      piece_refused x f = stopped room _ q c x w (next (output_of q c) k) f

pub pieces_end : (marks : Bool) (room : ℕ) (b : List ℕ) (o w : Output) → length b ≡ 0 → puts room (written_as marks b) o ≡ w → o ≡ w
unfolding puts
pieces_end marks room [] o w k h = rw (written_end marks) at h
pieces_end marks room (x ∷ b) o w k h = absurd (omega arith)

pub ruleset one_piece = (none_written, whole_written, part_written, none_taken, whole_taken, part_taken, whole_count)
