use Rattle.measure.proofs.Lines.{lines}
use Rattle.measure.proofs.line.volume_line.Goals as goal

pub returns-in-Ok : goal.returns-in-Ok
returns-in-Ok c = search lines

pub returns-in-Err : goal.returns-in-Err
returns-in-Err c = search lines
