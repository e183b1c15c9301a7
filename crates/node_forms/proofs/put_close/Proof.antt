use borrow.Author.Rules.{rules}
use Rattle.node_forms.proofs.Laws.{nodes}
use Rattle.node_forms.proofs.put_close.Statement.{statement}
use Rattle.node_forms.proofs.put_close.Tie as tie

pub put_close_spec : {M : Type 1} → statement M
put_close_spec =
    tie.close
    (tie.spec
    (λ c κs. search rules)
    (λ c. search rules)
    (λ c. search nodes))
