use borrow.Author.Rules.{rules}
use Rattle.lines.proofs.Laws.{all}
use Rattle.lines.proofs.line.put_rule.Statement.{statement}
use Rattle.lines.proofs.line.put_rule.Tie as tie

pub put_rule_spec : {M : Type 1} → statement M
put_rule_spec =
    tie.close
    (tie.spec
    (λ c κs. search rules)
    (λ c κs. search rules)
    (λ c κs. search rules)
    (λ c κs. search rules)
    (λ c. search rules)
    (λ c. search all))
