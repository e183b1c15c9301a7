-- the sums of the words of the chunks so far
use Rattle.std.proofs.Common.{◌≡◌, ◌*◌, min}
use Rattle.checksum.specs.Fletcher.{words_at}
use Rattle.checksum.specs.Inner.{carried, none}
use Rattle.checksum.proofs.fletcher64.Given as goal

abbrev pub invariant-loop-chunk : goal.invariant-loop-chunk
invariant-loop-chunk l = l.s ≡ carried none (words_at (8 * min l.eights (2048 * l.chunk)) l.object 8)
