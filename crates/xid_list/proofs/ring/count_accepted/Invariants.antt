-- What was counted are the blocks from i on.
use Rattle.std.proofs.Common.{◌≡◌, length}
use Rattle.xid_list.proofs.Rings.{numbers_from}
use Rattle.xid_list.proofs.ring.count_accepted.Given as goal

abbrev pub invariant-loop-i : goal.invariant-loop-i
invariant-loop-i l = l.n ≡ length (numbers_from l.reader l.image l.start l.ring l.i)
