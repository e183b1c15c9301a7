-- The ways in which a text is written.
use Rattle.std.specs.Prelude.{ℕ, ◌+◌, ◌≤◌}
use Rattle.text.specs.declared.Way.{Way}
use Rattle.text.specs.declared.Way.TheVariants.{Each, Past, Stored}

-- a way is open to len bytes from n on, in a buffer of size bytes
abbrev pub Open : Way → ℕ → ℕ → ℕ → ℕ → Type 0
Open Each room size n len = Unit
Open Past room size n len = (n + len ≤ room) × (size ≤ n)
Open Stored room size n len = (n + len ≤ room) × (n + len ≤ size)
