use Rattle.std.proofs.Common.{◌≡◌, ◌-◌, [], length}
use Rattle.text.specs.Output.{output_of, puts}
use Rattle.nx.specs.Slots.{slots_in, volumes_of}
use Rattle.container_line.specs.Container.{number_words}
use Rattle.container_line.proofs.put_volumes.Given as goal

abbrev pub invariant-loop-i : goal.invariant-loop-i
invariant-loop-i l =
    (length l.out ≡ length l.fn.out)
    × (puts l.room (number_words (slots_in l.image l.sb (l.n - l.i) l.i) []) (output_of l.q l.out) ≡ puts l.room (number_words (volumes_of l.image l.sb) []) (output_of l.fn.p l.fn.out))
