-- Laws of the counts.
use Prim.Native.Nat.{ℕ, ◌+◌, ◌≤◌, ◌<◌}
use mathlib.Core.Path.{◌≡◌, refl}
use mathlib.Core.List.{List}
use native.Mathlib.Omega.{arith}
use borrow.Author.Rules.{rules}
use lib.ListN.{get_or, set}
use Rattle.error.proofs.Laws.{at_most_lem, above}
use Rattle.calls.specs.Nodes.{capped}
use Rattle.desks.specs.Desks.{added}

module _ (cs : List ℕ) (d n : ℕ) where
  pub added_above : 7 < d → cs ≡ added cs d n
  unfolding added
  added_above h = at_most_lem _ _ _ _ _ h refl

  pub added_within : (x : ℕ) → d ≤ 7 → x ≡ capped (get_or cs d 0 + n) → set cs d x ≡ added cs d n
  unfolding added
  added_within x h e = above _ _ _ _ _ (omega arith) (rw e)

pub ruleset all = (rules, added_above, added_within)
