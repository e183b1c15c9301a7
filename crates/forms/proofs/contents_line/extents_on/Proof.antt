use Rattle.forms.proofs.Lines.{own_extents, other_extents}
use borrow.Author.Rules.{rules}
use Rattle.forms.proofs.contents_line.extents_on.Statement.{statement}
use Rattle.forms.proofs.contents_line.extents_on.Tie as tie

pub extents_on_spec : {M : Type 1} → statement M
extents_on_spec =
    tie.close
    (tie.spec
    (λ c κs. search rules)
    (λ c. search (rules, own_extents))
    (λ c κs. search rules)
    (λ c κs. search rules)
    (λ c. search (rules, other_extents)))
