use Rattle.reads.specs.Reads.{xattr_on}
use Rattle.calls.proofs.Steps.{elements}
use Rattle.reads.proofs.attribute.xattr_on.Goals as goal

pub returns-in-Ok-None : goal.returns-in-Ok-None
unfolding xattr_on
returns-in-Ok-None c = search elements

pub returns-in-Ok-Some : goal.returns-in-Ok-Some
unfolding xattr_on
returns-in-Ok-Some c = search elements

pub returns-in-Err : goal.returns-in-Err
unfolding xattr_on
returns-in-Err c = search elements
