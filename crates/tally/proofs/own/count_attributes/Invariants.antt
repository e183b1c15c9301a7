-- The attributes that were counted and those that are left are all of them.
use Rattle.std.proofs.Common.{◌≡◌, ◌+◌, ◌-◌, ◌^◌, ◌≤◌, length}
use Rattle.cursor.specs.Left.{run_at}
use Rattle.cursor.proofs.Through.{rest}
use Rattle.records.specs.Attribute.{attribute_at}
use Rattle.lists.specs.Inner.{readable}
use Rattle.tally.specs.Weight.{cap}
use Rattle.tally.proofs.own.count_attributes.Given as goal

abbrev pub invariant-loop-c : goal.invariant-loop-c
invariant-loop-c l =
    (cap (l.n + length (readable (attribute_at l.q.keys.reader l.image) (run_at l.image l.q l.s l.i)))
    ≡ cap (0 + length (readable (attribute_at l.q.keys.reader l.image) (run_at l.image l.q l.initial.s l.initial.i))))
    × (l.n ≤ 2 ^ 64 - 1)

abbrev pub decreases-loop-c : goal.decreases-loop-c
decreases-loop-c l = rest l.image l.q l.s l.i
