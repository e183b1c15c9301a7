use Rattle.replaced_line.specs.Line.{attribute_on}
use Rattle.replaced_line.proofs.ByKind.{kinds}
use Rattle.replaced_line.proofs.kinds.attribute_on.Goals as goal

pub returns-in-Ok-None : goal.returns-in-Ok-None
unfolding attribute_on
returns-in-Ok-None c = search kinds

pub returns-in-Ok-Some : goal.returns-in-Ok-Some
unfolding attribute_on
returns-in-Ok-Some c = search kinds

pub returns-in-Err : goal.returns-in-Err
unfolding attribute_on
returns-in-Err c = search kinds
