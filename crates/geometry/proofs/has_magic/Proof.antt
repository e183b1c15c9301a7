use borrow.Author.Rules.{rules}
use Rattle.geometry.proofs.Laws.{all}
use Rattle.geometry.proofs.has_magic.Statement.{statement}
use Rattle.geometry.proofs.has_magic.Tie as tie

pub has_magic_spec : {M : Type 1} → statement M
has_magic_spec =
    tie.close
    (tie.spec
    (λ c κs. search rules)
    (λ c. search rules)
    (λ c. search rules)
    (λ c. search all)
    (λ c. search all))
