use Rattle.paths.proofs.Walking.{walk_begun, walk_next}
use Rattle.paths.proofs.walk.lookup_path.Goals as goal

pub loop-p-init : goal.loop-p-init
loop-p-init c = walk_begun _ _ _ _ _ c.is_utf8.ensures _ _ c.if-not-is_utf8.false c.root-found.ensures c.next_part-p.ensures

pub loop-p-preserved : goal.loop-p-preserved
loop-p-preserved c = walk_next _ _ _ _ _ _ c.loop-p.invariant c.loop-p-test.true _ c.part_after-p.ensures _ _ _ c.in-Ok.is c.part.ensures c.enter-found.ensures
