use Rattle.std.proofs.Common.{◌≡◌, ◌+◌, ◌-◌, ◌*◌, length}
use Rattle.text.specs.Output.{output_of, puts}
use Rattle.wrong_word.specs.Mends.{listed}
use Rattle.wrong_word.specs.Inner.{solved_from}
use Rattle.wrong_word.proofs.put_all_places.Given as goal

abbrev pub invariant-loop-i : goal.invariant-loop-i
invariant-loop-i l =
    (length l.out ≡ length l.fn.out)
    × (puts l.room (listed (solved_from l.g l.object (l.n - l.i) (8 + 4 * l.i))) (output_of l.q l.out) ≡ puts l.room (listed (solved_from l.g l.object l.n 8)) (output_of l.fn.p l.fn.out))
