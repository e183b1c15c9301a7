use Rattle.element_lines.specs.Elements.{entry_on}
use Rattle.calls.proofs.Steps.{elements}
use Rattle.element_lines.proofs.entry.entry_on.Goals as goal

pub returns-in-Ok-None : goal.returns-in-Ok-None
unfolding entry_on
returns-in-Ok-None c = search elements

pub returns-in-Ok-Some : goal.returns-in-Ok-Some
unfolding entry_on
returns-in-Ok-Some c = search elements

pub returns-in-Err : goal.returns-in-Err
unfolding entry_on
returns-in-Err c = search elements
