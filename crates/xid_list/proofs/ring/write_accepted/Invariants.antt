-- What was stored are the numbers of the blocks from i on.
use Rattle.std.proofs.Common.{◌≡◌, length}
use Rattle.xid_list.proofs.Rings.{Stored}
use Rattle.xid_list.proofs.ring.write_accepted.Given as goal

abbrev pub invariant-loop-i : goal.invariant-loop-i
invariant-loop-i l = (length l.out ≡ length l.fn.out) × Stored l.reader l.image l.start l.ring l.fn.out l.i l.n l.out
