-- A run's k-th record as the k-th of its list.
use Prim.Native.Nat.{ℕ, zero, suc, ◌≤◌, ◌<◌}
use mathlib.Core.Path.{◌≡◌, refl}
use Rattle.std.specs.Prelude.{Some}
use lib.ListN.{length, get_or}
use native.Mathlib.Omega.{arith}
use Rattle.error.specs.Answer.{Ok}
use Rattle.lookup.specs.Counted.{after}
use Rattle.btree.specs.Scan.{Run, more, end, refused, nth, places, counts, ending}
use Rattle.node.specs.declared.place.Place.{Place}

-- the number of a run's records
abbrev pub size : Run → ℕ
size r = length (places r)

-- the k-th record is the list's k-th, and past the list the run ends as it ends
pub nth_place : (k : ℕ) (r : Run) (d : Place) → k < size r → nth k r ≡ after (get_or (counts r) k 0) (Ok (Some (get_or (places r) k d)))
unfolding nth places counts
nth_place zero (more p s r) d h = refl
nth_place (suc k) (more p s r) d h = nth_place k r d (omega arith)
nth_place k (end s) d h = absurd (omega arith)
nth_place k (refused e s) d h = absurd (omega arith)

pub nth_over : (k : ℕ) (r : Run) → size r ≤ k → nth k r ≡ ending r
unfolding nth places ending
nth_over zero (more p s r) h = absurd (omega arith)
nth_over (suc k) (more p s r) h = nth_over k r (omega arith)
nth_over zero (end s) h = refl
nth_over (suc k) (end s) h = refl
nth_over zero (refused e s) h = refl
nth_over (suc k) (refused e s) h = refl
