-- The numbers that stand in a buffer, for the proof of an insertion. A buyer may pass over this file.
use Rattle.std.specs.Prelude.{ℕ, zero, suc, ◌+◌, List, [], ◌∷◌}
use Rattle.byte_fields.specs.Number.{little}

-- n numbers of 8 bytes from a place on
unfoldable pub held_in : List ℕ → ℕ → ℕ → List ℕ
held_in b off zero = []
held_in b off (suc n) = little 8 b off ∷ held_in b (off + 8) n
