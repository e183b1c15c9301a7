use mathlib.Core.Path.{refl}
use borrow.Author.Rules.{rules}
use Rattle.text.proofs.Writing.{then_literal, then_digits, then_byte}
use Rattle.measure.specs.Line.{numbers_line}
use Rattle.measure.proofs.line.put_measure.Statement.{statement}
use Rattle.measure.proofs.line.put_measure.Tie as tie

pub put_measure_spec : {M : Type 1} → statement M
unfolding numbers_line
put_measure_spec =
    tie.close
    (tie.spec
    (λ c κs. search rules)
    (λ c κs. search rules)
    (λ c κs. search rules)
    (λ c κs. search rules)
    (λ c κs. search rules)
    (λ c. search rules)
    (λ c.
    then_literal _ _ _ _ _ _ c.put_all-a.ensures refl
    (then_digits _ _ _ _ _ _ c.put_decimal-b.ensures
    (then_byte _ _ _ _ _ _ c.put_all-c.ensures
    (then_digits _ _ _ _ _ _ c.put_decimal-d.ensures c.put_all.ensures)))))
