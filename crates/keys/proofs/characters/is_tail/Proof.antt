use borrow.Author.Rules.{rules}
use Rattle.keys.proofs.Scalars.{never_tail, last_tail}
use Rattle.keys.proofs.characters.is_tail.Statement.{statement}
use Rattle.keys.proofs.characters.is_tail.Tie as tie

ruleset turns = (rules, never_tail, last_tail)

pub is_tail_spec : {M : Type 1} → statement M
is_tail_spec =
    tie.close
    (tie.spec
    (λ c. search turns)
    (λ c. search turns))
