-- The list of an image's checkpoints, by what was counted and stored.
use Prim.Native.Nat.{ℕ, ◌*◌, ◌/◌, ◌≤◌, ◌<◌}
use mathlib.Core.Path.{◌≡◌, refl, sym, ◌∙◌}
use mathlib.Core.List.{List, [], ◌∷◌, ◌++◌}
use native.Mathlib.Omega.{arith}
use lib.ListN.{length, drop}
use Rattle.error.specs.Answer.{Err, Ok}
use Rattle.error.specs.declared.Refusal.TheVariants.{Corrupt, BufferTooShort}
use Rattle.error.proofs.Laws.{at_most_lem, above}
use Rattle.checkpoints.specs.Numbers.{descending, some_numbers}
use Rattle.calls.specs.Filled.{filled_at}
use Rattle.xid_list.specs.Listed.{bytes_of, xids_in, xids_by}
use Rattle.xid_list.proofs.Held.{descending_length}

-- of the numbers l in ring order
module _ (l b : List ℕ) where
  none_there : (d : List ℕ) → length d ≡ 0 → (x : List ℕ) → x ≡ bytes_of d ++ drop (8 * 0) b → filled_at (Err Corrupt) x ≡ xids_by (some_numbers d) b
  unfolding bytes_of
  none_there [] e x p = rw p
  none_there (y ∷ d) e x p = absurd (omega arith)

  some_there : (d : List ℕ) (n : ℕ) → length d ≡ n → 0 < n → 8 * n ≤ length b → (x : List ℕ) → x ≡ bytes_of d ++ drop (8 * n) b → filled_at (Ok n) x ≡ xids_by (some_numbers d) b
  unfolding xids_in
  some_there [] n e h k x p = absurd (omega arith)
  some_there (y ∷ d) n e h k x p = at_most_lem _ _ _ _ _ (rw e k) (rw (e, p))

  short : (d : List ℕ) → length b < 8 * length d → filled_at (Err BufferTooShort) b ≡ xids_by (some_numbers d) b
  unfolding xids_in
  short [] h = absurd (omega arith)
  short (y ∷ d) h = above _ _ _ _ _ h refl

  module _ (n : ℕ) (x : List ℕ) (e : n ≡ length l) (p : x ≡ bytes_of (descending l) ++ drop (8 * n) b) where
    pub listed_none : n ≡ 0 → filled_at (Err Corrupt) x ≡ xids_by (some_numbers (descending l)) b
    listed_none z = none_there (descending l) (descending_length l ∙ (sym e ∙ z)) x (rw z at p)

    pub listed_some : (n ≡ 0 → ⊥) → 8 * length l ≤ length b → filled_at (Ok n) x ≡ xids_by (some_numbers (descending l)) b
    listed_some z h = some_there (descending l) n (descending_length l ∙ sym e) (omega arith) (omega arith) x p

  pub listed_short : (n : ℕ) → n ≡ length l → length b / 8 < n → filled_at (Err BufferTooShort) b ≡ xids_by (some_numbers (descending l)) b
  listed_short n e h = short (descending l) (omega (arith, descending_length l))

  -- room for every block, or for as many as were counted
  pub room_for_ring : (ring : ℕ) → length l ≤ ring → ring ≤ length b / 8 → 8 * length l ≤ length b
  room_for_ring ring h k = omega arith

  pub room_for_count : (n : ℕ) → n ≡ length l → n ≤ length b / 8 → 8 * length l ≤ length b
  room_for_count n e k = omega arith
