use Rattle.std.proofs.Common.{◌-◌, ◌≡◌}
use Rattle.checkpoints.specs.Maps.{maps_from, maps_fit}
use Rattle.checkpoints.proofs.maps.maps_fit.Given as goal

abbrev pub invariant-loop-k : goal.invariant-loop-k
invariant-loop-k l = maps_from l.reader l.image l.d l.xid l.ring (l.n - l.k) l.k ≡ maps_fit l.reader l.image l.d l.xid l.ring
