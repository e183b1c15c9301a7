use borrow.Author.Rules.{rules}
use Rattle.volume.specs.Rule.{rule_of}
use Rattle.volume.proofs.rule.name_rule.Statement.{statement}
use Rattle.volume.proofs.rule.name_rule.Tie as tie

pub name_rule_spec : {M : Type 1} → statement M
unfolding rule_of
name_rule_spec =
    tie.close
    (tie.spec
    (λ c. search rules))
