-- An inode goes a level down. The loop's invariant: what was counted, and what the entries that are left count for, is the whole.
use Rattle.std.proofs.Common.{◌≡◌, ◌-◌}
use Rattle.cursor.specs.Left.{run_at}
use Rattle.cursor.proofs.Through.{rest}
use Rattle.records.specs.Directory.{entry_at}
use Rattle.lists.specs.Inner.{readable}
use Rattle.tally.specs.Weight.{capped, beside, weigh_all, weight, tally_told}
use Rattle.tally.proofs.Counting.{Small}
use Rattle.tally.proofs.tree.+tally_node.Given as goal

abbrev pub decreases-tally_node : goal.decreases-tally_node
decreases-tally_node l = l.levels

abbrev pub invariant-loop-t : goal.invariant-loop-t
invariant-loop-t l =
    (capped (beside (tally_told l.t) (weigh_all (weight l.image l.v (l.levels - 1)) (readable (entry_at l.q.keys.hashed l.q.keys.reader l.image) (run_at l.image l.q l.s l.k))))
    ≡ capped (beside (tally_told l.initial.t) (weigh_all (weight l.image l.v (l.levels - 1)) (readable (entry_at l.q.keys.hashed l.q.keys.reader l.image) (run_at l.image l.q l.initial.s l.initial.k)))))
    × Small (tally_told l.t)

abbrev pub decreases-loop-t : goal.decreases-loop-t
decreases-loop-t l = rest l.image l.q l.s l.k
