use Rattle.std.proofs.Common.{◌≡◌, ◌+◌, ◌-◌, length}
use Rattle.std.proofs.lemmas.List.Edits.{sets}
use Rattle.byte_fields.specs.Number.{little_bytes}
use Rattle.byte_fields.proofs.put_little.Given as goal

abbrev pub invariant-loop-i : goal.invariant-loop-i
invariant-loop-i l =
    (length l.out ≡ length l.fn.out) × (sets l.out (l.at + l.i) (little_bytes (l.n - l.i) l.rest) ≡ sets l.fn.out l.at (little_bytes l.n l.x))
