-- What comes of the bytes that are left is the whole.
use mathlib.Core.Path.{◌≡◌}
use mathlib.Core.List.{List, ◌++◌}
use Prim.Native.Nat.{ℕ}
use lib.ListN.{length, drop}
use Rattle.feed.specs.Fed.{fed}
use Rattle.feed.proofs.feed.push_all.Given as goal

abbrev pub invariant-loop-b : goal.invariant-loop-b
invariant-loop-b l = ((xs : List ℕ) → fed l.room l.g l.out (drop l.b-index l.bytes ++ xs) ≡ fed l.room l.fn.f l.fn.out (l.bytes ++ xs)) × (length l.out ≡ length l.fn.out)
