use borrow.Author.Rules.{rules}
use Rattle.keys.proofs.PrefixLaws.{none_shared, one_shared}
use Rattle.keys.proofs.compare.shared.Statement.{statement}
use Rattle.keys.proofs.compare.shared.Tie as tie

ruleset turns = (rules, none_shared)

pub shared_spec : {M : Type 1} → statement M
shared_spec =
    tie.close
    (tie.spec
    (λ c κs. search turns)
    (λ c. search turns)
    (λ c. search turns)
    (λ c κs. search turns)
    (λ c. search turns)
    (λ c. search turns)
    (λ c. search turns)
    (λ c κs. search turns)
    (λ c. search turns)
    (λ c. search turns)
    (λ c. search turns)
    (λ c. one_shared _ _ _ _ _ _ _ _ _ _ c.character_at.ensures c.character_at-in-At.ensures c.in-At.is c.in-At-character_at.is c.if-n-m.false c.alike.ensures c.if-not-alike.false-raw))
