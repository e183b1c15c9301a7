use Rattle.lookup.proofs.Laws.{all, looked_in}
use Rattle.lookup.proofs.map.look_up.Goals as goal

pub returns-in-Ok-Some : goal.returns-in-Ok-Some
returns-in-Ok-Some c = looked_in _ _ _ _ _ _ (search all)

pub returns-in-Ok-None : goal.returns-in-Ok-None
returns-in-Ok-None c = looked_in _ _ _ _ _ _ (search all)

pub returns-in-Err : goal.returns-in-Err
returns-in-Err c = looked_in _ _ _ _ _ _ (search all)
