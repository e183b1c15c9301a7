use borrow.Author.Rules.{rules}
use Rattle.error.specs.Answer.{if_eq}
use Rattle.desks.specs.Inner.{rest_for}
use Rattle.desks.proofs.Numbered.{rows, rest_of, rest_none}
use Rattle.desks.proofs.by_number.other_call.Statement.{statement}
use Rattle.desks.proofs.by_number.other_call.Tie as tie

pub other_call_spec : {M : Type 1} → statement M
unfolding rest_for if_eq
other_call_spec =
    tie.close
    (tie.spec
    (λ c κs. search rules)
    (λ c. search rules)
    (λ c. rest_of _ _ _ 14 _ c.if-what-eq14.true c.checkpoints_of.ensures)
    (λ c κs. search rules)
    (λ c. search rules)
    (λ c. rest_of _ _ _ 15 _ c.if-what-eq15.true c.part_text.ensures)
    (λ c κs. search rules)
    (λ c. search rules)
    (λ c. rest_of _ _ _ 16 _ c.if-what-eq16.true c.wrong_words.ensures)
    (λ c. rest_none _ _ _ c.if-what-eq14.false c.if-what-eq15.false c.if-what-eq16.false))
