use Rattle.element_lines.specs.Elements.{extent_of}
use Rattle.calls.proofs.Steps.{elements}
use Rattle.element_lines.proofs.extent.extent_of.Goals as goal

pub returns-in-Ok-None : goal.returns-in-Ok-None
unfolding extent_of
returns-in-Ok-None c = search elements

pub returns-in-Ok-Some : goal.returns-in-Ok-Some
unfolding extent_of
returns-in-Ok-Some c = search elements

pub returns-in-Err : goal.returns-in-Err
unfolding extent_of
returns-in-Err c = search elements
