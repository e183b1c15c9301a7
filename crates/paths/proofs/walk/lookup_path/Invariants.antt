use Rattle.std.proofs.Common.{◌-◌, length}
use Rattle.paths.proofs.Walking.{Walking}
use Rattle.paths.proofs.walk.lookup_path.Given as goal

abbrev pub invariant-loop-p : goal.invariant-loop-p
invariant-loop-p l = Walking l.image l.v l.path l.fn.nodes l.found l.p

abbrev pub decreases-loop-p : goal.decreases-loop-p
decreases-loop-p l = length l.path - l.p.start
