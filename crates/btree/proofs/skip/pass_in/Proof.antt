use Prim.Native.Nat.{ℕ, ◌-◌}
use mathlib.Core.Path.{◌≡◌, refl}
use mathlib.Core.List.{List}
use Rattle.btree.specs.Entries.{bytes_of}
use Rattle.btree.specs.Scan.{Run, nth}
use Rattle.btree.specs.Inner.{leaf_from}
use Rattle.btree.specs.declared.entries.Search.{Search}
use Rattle.btree.proofs.Nth.{leaves, in_that}
use Rattle.btree.proofs.skip.pass_in.Statement.{statement}
use Rattle.btree.proofs.skip.pass_in.Tie as tie

abbrev invariant-loop : tie.invariant-loop-e
invariant-loop b k node skip left₀ i₀ left i =
    (image : List ℕ) (q : Search) → k ≡ q.keys → b ≡ bytes_of image q node →
    (s : ℕ) (t : Run) → nth left (leaf_from image q node (node.nkeys - i) i s t) ≡ nth skip (leaf_from image q node (node.nkeys - 0) 0 s t)

abbrev decreases-loop : tie.decreases-loop-e
decreases-loop b k node skip left₀ i₀ left i = node.nkeys - i

pub pass_in_spec : {M : Type 1} → statement M
pass_in_spec =
    tie.close
    (tie.spec
    invariant-loop
    decreases-loop
    (λ c. λ image q e d s t. refl)
    (λ c κs. search leaves)
    (λ c. search leaves)
    (λ c. λ image q e d s t.
    let p = c.loop-e.invariant image q e d s t in
    let u = in_that _ _ _ _ _ c.in_leaf.ensures image q e d in
    search leaves)
    (λ c. search leaves)
    (λ c. λ image q e d s t.
    let p = c.loop-e.invariant image q e d s t in
    let u = in_that _ _ _ _ _ c.in_leaf.ensures image q e d in
    search leaves)
    (λ c. search leaves)
    (λ c. λ image q e d s t.
    let p = c.loop-e.invariant image q e d s t in
    let u = in_that _ _ _ _ _ c.in_leaf.ensures image q e d in
    search leaves)
    (λ c. search leaves)
    (λ c. λ image q e d s t.
    let p = c.loop-e.invariant image q e d s t in
    let u = in_that _ _ _ _ _ c.in_leaf.ensures image q e d in
    search leaves)
    (λ c. search leaves)
    (λ c. search leaves)
    (λ c. λ image q e d s t.
    let p = c.loop-e.invariant image q e d s t in
    let u = in_that _ _ _ _ _ c.in_leaf.ensures image q e d in
    search leaves))
