use Prim.Native.Nat.{◌-◌}
use mathlib.Core.Path.{◌≡◌}
use Rattle.btree.specs.Inner.{in_leaf}
use Rattle.btree.proofs.Leaves.{inside}
use Rattle.btree.proofs.leaf.in_leaf.Statement.{statement}
use Rattle.btree.proofs.leaf.in_leaf.Tie as tie

abbrev invariant-loop : tie.invariant-loop-i
invariant-loop b node info id kind from i₀ i = in_leaf b node info id kind (node.nkeys - i) i ≡ in_leaf b node info id kind (node.nkeys - from) from

abbrev decreases-loop : tie.decreases-loop-i
decreases-loop b node info id kind from i₀ i = node.nkeys - i

pub in_leaf_spec : {M : Type 1} → statement M
in_leaf_spec =
    tie.close
    (tie.spec
    invariant-loop
    decreases-loop
    (λ c. search inside)
    (λ c κs. search inside)
    (λ c. search inside)
    (λ c. search inside)
    (λ c. search inside)
    (λ c. search inside)
    (λ c. search inside)
    (λ c. search inside)
    (λ c. search inside)
    (λ c. search inside)
    (λ c. search inside)
    (λ c. search inside)
    (λ c. search inside)
    (λ c. search inside))
