use Rattle.std.proofs.Common.{◌≡◌, ◌-◌, length}
use Rattle.text.specs.Output.{output_of, puts}
use Rattle.byte_fields.specs.Number.{little_bytes}
use Rattle.wrong_word.proofs.put_number.Given as goal

abbrev pub invariant-loop : goal.invariant-loop
invariant-loop l = (length l.out ≡ length l.fn.out) × (puts l.room (little_bytes (l.n - l.counter) l.rest) (output_of l.q l.out) ≡ puts l.room (little_bytes l.n l.x) (output_of l.fn.p l.fn.out))
