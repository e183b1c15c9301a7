use mathlib.Core.Path.{refl}
use borrow.Author.Rules.{rules}
use Rattle.replaced_line.specs.Line.{replaced_line}
use Rattle.text.proofs.Writing.{then_literal, then_digits}
use Rattle.replaced_line.proofs.line.put_line.Statement.{statement}
use Rattle.replaced_line.proofs.line.put_line.Tie as tie

pub put_line_spec : {M : Type 1} → statement M
unfolding replaced_line
put_line_spec =
    tie.close
    (tie.spec
    (λ c κs. search rules)
    (λ c κs. search rules)
    (λ c κs. search rules)
    (λ c. search rules)
    (λ c. then_literal _ _ _ _ _ _ c.put_all-a.ensures refl (then_digits _ _ _ _ _ _ c.put_decimal-b.ensures c.put_all.ensures)))
