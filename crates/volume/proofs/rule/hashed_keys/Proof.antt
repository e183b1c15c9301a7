use borrow.Author.Rules.{rules}
use Rattle.volume.proofs.Rules.{by_rule}
use Rattle.volume.proofs.rule.hashed_keys.Statement.{statement}
use Rattle.volume.proofs.rule.hashed_keys.Tie as tie

pub hashed_keys_spec : {M : Type 1} → statement M
hashed_keys_spec =
    tie.close
    (tie.spec
    (λ c κs. search rules)
    (λ c κs. search rules)
    (λ c. search by_rule))
