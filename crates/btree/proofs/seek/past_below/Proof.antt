use Prim.Native.Nat.{◌-◌, ◌<◌}
use mathlib.Core.Path.{◌≡◌}
use Rattle.btree.specs.Inner.{follow_in}
use Rattle.btree.proofs.Seeking.{following}
use Rattle.btree.proofs.seek.past_below.Statement.{statement}
use Rattle.btree.proofs.seek.past_below.Tie as tie

abbrev invariant-loop : tie.invariant-loop-at
invariant-loop b node info id kind from at₀ at = (at < node.nkeys) × (follow_in b node info id kind at ≡ follow_in b node info id kind from)

abbrev decreases-loop : tie.decreases-loop-at
decreases-loop b node info id kind from at₀ at = node.nkeys - at

pub past_below_spec : {M : Type 1} → statement M
past_below_spec =
    tie.close
    (tie.spec
    invariant-loop
    decreases-loop
    (λ c. search following)
    (λ c. search following)
    (λ c. search following)
    (λ c. search following)
    (λ c κs. search following)
    (λ c. search following)
    (λ c. search following)
    (λ c. search following)
    (λ c. search following)
    (λ c. search following)
    (λ c. search following)
    (λ c. search following)
    (λ c. search following)
    (λ c. search following)
    (λ c. search following)
    (λ c. search following))
