-- the words that are left, added to the sums so far, give the sums of all
use Rattle.std.proofs.Common.{◌≡◌, ◌+◌, ◌-◌, ◌*◌, ◌<◌}
use Rattle.checksum.specs.Fletcher.{words_at}
use Rattle.checksum.specs.Inner.{carried}
use Rattle.checksum.proofs.add_words.Given as goal

abbrev pub invariant-loop-i : goal.invariant-loop-i
invariant-loop-i l =
    (l.x < 4294967295 * (l.i + 1)) × (l.y < 4294967295 + 34359738360 * l.i)
    × (carried (record { s1 = l.x; s2 = l.y }) (words_at (l.n - l.i) l.b (l.at + 4 * l.i)) ≡ carried l.fn.s (words_at l.n l.b l.at))
