-- The result of an exported call, and its buffer. Document 01, "Answers other than success": the numbers of the refusals; "any other refusal leaves
-- buffers unchanged. Success writes nothing past its answer".
use Rattle.std.specs.Prelude.{ℕ, ◌^◌, ◌<◌, List, ℤ, pos, ◌-ℤ◌}
use Rattle.error.specs.Answer.{Answer, Ok, Err, number_of}
use Rattle.calls.specs.Filled.{filled_by}

-- the result is how many bytes were written, or minus the refusal's number
abbrev pub minus : ℕ → ℤ
minus n = pos 0 -ℤ pos n

abbrev pub number : Answer ℕ → ℤ
number (Ok n) = pos n
number (Err e) = minus (number_of e)

abbrev pub result_of : Answer (List ℕ) → List ℕ → ℤ
result_of a b = number (filled_by a b).answer

abbrev pub buffer_of : Answer (List ℕ) → List ℕ → List ℕ
buffer_of a b = (filled_by a b).buffer

abbrev pub result_at : Answer ℕ → ℤ
result_at p = number p

-- a count that an i64 holds
abbrev pub Within : Answer ℕ → Type 0
Within (Ok n) = n < 2 ^ 63
Within (Err e) = Unit {0}
