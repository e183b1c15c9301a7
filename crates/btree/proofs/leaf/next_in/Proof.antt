use borrow.Author.Rules.{rules}
use Rattle.node.proofs.Places.{block_under}
use Rattle.btree.proofs.Leaves.{in_of}
use Rattle.btree.proofs.leaf.next_in.Statement.{statement}
use Rattle.btree.proofs.leaf.next_in.Tie as tie

pub next_in_spec : {M : Type 1} → statement M
next_in_spec =
    tie.close
    (tie.spec
    (λ c κs. search rules)
    (λ c κs. search (rules, in_of, block_under))
    (λ c. search (rules, in_of, block_under)))
