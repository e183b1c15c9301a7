use Rattle.std.proofs.Common.{arith}
use Rattle.checksum.proofs.Laws.{half_small, eight_small, eight_covered, eight_goes, eight_done}
use Rattle.checksum.proofs.add_eights.Goals as goal

pub loop-i-preserved : goal.loop-i-preserved
loop-i-preserved c =
    let inv = c.loop-i.invariant in
    let four = c.add_four-half.ensures in
    let more = c.add_four-l.ensures in
    let half = half_small _ _ _ _ _ four.0 (omega arith) inv.0 four.1 in (
      eight_small _ _ _ _ _ four.0 _ more.0 (omega arith) half more.1,
      eight_covered _ _ _ _ _ four.0 _ more.0,
      eight_goes _ _ _ _ _ four.0 _ more.0 _ _ _ inv.1 inv.2 (omega arith),
    )

pub returns : goal.returns
returns c = eight_done _ _ _ _ _ _ _ c.loop-i.invariant.2 (omega arith) c.join.ensures
