-- Counts of nodes. Document 02, request 06: "At 2^64 − 1 a count stays".
use Rattle.std.specs.Prelude.{ℕ, ◌-◌, ◌^◌, min}

unfoldable pub capped : ℕ → ℕ
capped n = min n (2 ^ 64 - 1)
