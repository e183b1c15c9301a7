use Rattle.lists.proofs.OnWay.{leads_to, begins_kind}
use borrow.Author.Rules.{rules}
use Rattle.lists.proofs.ways.list_on.Statement.{statement}
use Rattle.lists.proofs.ways.list_on.Tie as tie

pub list_on_spec : {M : Type 1} → statement M
list_on_spec =
    tie.close
    (tie.spec
    (λ c κs. search rules)
    (λ c κs. search (rules, leads_to))
    (λ c. search (rules, begins_kind)))
