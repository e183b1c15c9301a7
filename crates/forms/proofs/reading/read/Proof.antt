use borrow.Author.Rules.{rules}
use Rattle.forms.proofs.After.{readings_left}
use Rattle.forms.proofs.reading.read.Statement.{statement}
use Rattle.forms.proofs.reading.read.Tie as tie

pub read_spec : {M : Type 1} → statement M
read_spec =
    tie.close
    (tie.spec
    (λ c κs. search rules)
    (λ c. search rules)
    (λ c. search rules)
    (λ c. search rules)
    (λ c. search rules)
    (λ c. search readings_left)
    (λ c. search readings_left)
    (λ c. search readings_left))
