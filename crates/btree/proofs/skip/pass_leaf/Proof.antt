use mathlib.Core.Path.{refl}
use borrow.Author.Rules.{rules}
use Rattle.node.proofs.Places.{block_under}
use Rattle.btree.proofs.skip.pass_leaf.Statement.{statement}
use Rattle.btree.proofs.skip.pass_leaf.Tie as tie

pub pass_leaf_spec : {M : Type 1} → statement M
pass_leaf_spec =
    tie.close
    (tie.spec
    (λ c κs. search rules)
    (λ c κs. search (rules, block_under))
    (λ c. λ s k. c.pass_in.ensures _ _ refl c.block.ensures s k))
