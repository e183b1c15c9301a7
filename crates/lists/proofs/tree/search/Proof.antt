use borrow.Author.Rules.{rules}
use Rattle.lists.proofs.Laws.{search_is}
use Rattle.lists.proofs.tree.search.Statement.{statement}
use Rattle.lists.proofs.tree.search.Tie as tie

pub search_spec : {M : Type 1} → statement M
search_spec =
    tie.close
    (tie.spec
    (λ c κs. search rules)
    (λ c. search (rules, search_is)))
