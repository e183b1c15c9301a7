use Rattle.attribute_lines.specs.Attributes.{attribute_on}
use Rattle.attribute_lines.proofs.Steps.{onward}
use Rattle.attribute_lines.proofs.attribute_on.Goals as goal

pub returns-in-Ok-None : goal.returns-in-Ok-None
unfolding attribute_on
returns-in-Ok-None c = search onward

pub returns-in-Ok-Some : goal.returns-in-Ok-Some
unfolding attribute_on
returns-in-Ok-Some c = search onward

pub returns-in-Err : goal.returns-in-Err
unfolding attribute_on
returns-in-Err c = search onward
