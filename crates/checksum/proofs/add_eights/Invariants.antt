-- the words that are left, added to what the lanes stand for, give the sums of all
use Rattle.std.proofs.Common.{◌≡◌, ◌+◌, ◌-◌, ◌*◌}
use Rattle.checksum.specs.Fletcher.{words_at}
use Rattle.checksum.specs.Inner.{carried, joint}
use Rattle.checksum.proofs.Laws.{Small, Covered}
use Rattle.checksum.proofs.add_eights.Given as goal

abbrev pub invariant-loop-i : goal.invariant-loop-i
invariant-loop-i l =
    Small (2 * l.i) l.l × Covered l.l × (carried (joint l.s.s2 l.l) (words_at (8 * (l.n - l.i)) l.b (l.at + 32 * l.i)) ≡ carried l.s (words_at (8 * l.n) l.b l.at))
