use Rattle.lookup.proofs.Laws.{all, block_of_lem}
use Rattle.lookup.proofs.map.resolve_mapped.Goals as goal

pub returns-then-v-eq1 : goal.returns-then-v-eq1
returns-then-v-eq1 c = block_of_lem _ _ _ _ _ _ (search all)

pub returns-else-v-eq1 : goal.returns-else-v-eq1
returns-else-v-eq1 c = block_of_lem _ _ _ _ _ _ (search all)

pub returns-in-Ok-None : goal.returns-in-Ok-None
returns-in-Ok-None c = block_of_lem _ _ _ _ _ _ (search all)

pub returns-in-Err : goal.returns-in-Err
returns-in-Err c = block_of_lem _ _ _ _ _ _ (search all)
