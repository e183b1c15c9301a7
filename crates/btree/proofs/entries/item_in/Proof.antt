use borrow.Author.Rules.{rules}
use Rattle.node.proofs.Places.{small_entry}
use Rattle.btree.specs.Entries.{item_in}
use Rattle.btree.proofs.Laws.{all, parts}
use Rattle.btree.proofs.entries.item_in.Statement.{statement}
use Rattle.btree.proofs.entries.item_in.Tie as tie

pub item_in_spec : {M : Type 1} → statement M
unfolding item_in
item_in_spec =
    tie.close
    (tie.spec
    (λ c κs. search rules)
    (λ c. search rules)
    (λ c κs. search rules)
    (λ c κs. search rules)
    (λ c. search rules)
    (λ c. search rules)
    (λ c. search rules)
    (λ c κs. search (all, parts, small_entry))
    (λ c. search rules)
    (λ c. search rules)
    (λ c. search rules)
    (λ c. search (all, parts, small_entry))
    (λ c. search (all, parts, small_entry))
    (λ c. search (all, parts, small_entry))
    (λ c. search (all, parts, small_entry))
    (λ c. search (all, parts, small_entry)))
