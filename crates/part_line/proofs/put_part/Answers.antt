use Rattle.std.proofs.Common.{refl}
use Rattle.text.proofs.Writing.{then_literal, then_digits, then_byte}
use Rattle.part_line.specs.Line.{part_line}
use Rattle.part_line.proofs.put_part.Goals as goal

pub returns : goal.returns
unfolding part_line
returns c =
    then_literal _ _ _ _ _ _ c.put_all-a.ensures refl
    (then_digits _ _ _ _ _ _ c.put_decimal-b.ensures
    (then_byte _ _ _ _ _ _ c.put_all-c.ensures
    (then_digits _ _ _ _ _ _ c.put_decimal-d.ensures c.put_all.ensures)))
