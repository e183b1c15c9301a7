-- The list of transaction numbers in a lent buffer. Document 02, request 04.
use Rattle.std.specs.Prelude.{ℕ, List, [], ◌∷◌, ◌++◌, length}
use Rattle.error.specs.Answer.{Answer, Ok, Err}
use Rattle.byte_fields.specs.Number.{little_bytes}
use Rattle.calls.specs.Filled.{Filled, entries_in}

-- "8 bytes each"
unfoldable pub bytes_of : List ℕ → List ℕ
bytes_of [] = []
bytes_of (x ∷ l) = little_bytes 8 x ++ bytes_of l

-- "and answer how many"; "then a list buffer too short 6"
unfoldable pub xids_in : List ℕ → List ℕ → Filled
xids_in l b = entries_in 8 (length l) (bytes_of l) b

abbrev pub xids_by : Answer (List ℕ) → List ℕ → Filled
xids_by (Ok l) b = xids_in l b
xids_by (Err e) b = record { answer = Err e; buffer = b }
