use Rattle.entry_lines.specs.Entries.{entries_on}
use Rattle.entry_lines.proofs.Steps.{onward}
use Rattle.entry_lines.proofs.entries_on.Goals as goal

pub returns-in-Ok-None : goal.returns-in-Ok-None
unfolding entries_on
returns-in-Ok-None c = search onward

pub returns-in-Ok-Some : goal.returns-in-Ok-Some
unfolding entries_on
returns-in-Ok-Some c = search onward

pub returns-in-Err : goal.returns-in-Err
unfolding entries_on
returns-in-Err c = search onward
