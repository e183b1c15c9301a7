use mathlib.Core.Bool.{false}
use native.Mathlib.Omega.{arith}
use borrow.Author.Rules.{rules}
use Rattle.keys.proofs.AsciiLaws.{first_ascii}
use Rattle.keys.proofs.StreamLaws.{first_none, first_end, first_fits, first_goes}
use Rattle.keys.proofs.stream.first_letter.Statement.{statement}
use Rattle.keys.proofs.stream.first_letter.Tie as tie

ruleset turns = (rules, first_ascii, first_none, first_end, first_fits, first_goes)

pub first_letter_spec : {M : Type 1} → statement M
first_letter_spec =
    tie.close
    (tie.spec
    (λ c. search turns)
    (λ c. search turns)
    (λ c κs. search turns)
    (λ c. search turns)
    (λ c. search turns)
    (λ c. search turns)
    (λ c. search turns)
    (λ c. search turns)
    (λ c. search turns)
    (λ c κs. search turns)
    (λ c. search turns)
    (λ c. search turns)
    (λ c κs. search turns)
    (λ c. omega (arith, first_fits false c.args.b.now c.args.at _ c.character_at.ensures _ _ c.in-At.is c.if-b-at.false))
    (λ c κs. search turns)
    (λ c. search turns)
    (λ c. first_goes c.args.caseless c.args.b.now c.args.at _ c.character_at.ensures _ _ c.letters_of.result c.opened.result c.in-At.is c.letters_of.ensures (c.opened.ensures c.args.caseless c.args.b.now)))
