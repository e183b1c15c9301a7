-- What is still to be stored, of the number that is carried and those that follow, makes the whole.
use Rattle.std.proofs.Common.{◌≡◌, ◌-◌, ◌*◌, length}
use Rattle.std.proofs.lemmas.List.Edits.{sets}
use Rattle.checkpoints.specs.Numbers.{insert}
use Rattle.xid_list.specs.Listed.{bytes_of}
use Rattle.xid_list.specs.Inner.{held_in}
use Rattle.xid_list.proofs.insert.insert_number.Given as goal

abbrev pub invariant-loop-j : goal.invariant-loop-j
invariant-loop-j l =
    (length l.out ≡ length l.fn.out)
    × (sets l.out (8 * l.j) (bytes_of (insert l.x (held_in l.out (8 * l.j) (l.n - l.j)))) ≡ sets l.fn.out 0 (bytes_of (insert l.xid (held_in l.fn.out 0 l.n))))
