-- The little-endian numbers of a list of bytes. Document 01: "Stored numbers are little-endian"; bytes.rs, "past the end is 2".
use Rattle.std.specs.Prelude.{ℕ, zero, suc, ◌+◌, ◌*◌, ◌/◌, ◌%◌, List, [], ◌∷◌, length, get_or}
use Rattle.error.specs.Answer.{Answer, Ok, Err, if_le}
use Rattle.error.specs.declared.Refusal.TheVariants.{Corrupt}

-- the number of the n bytes at off, the lowest first
unfoldable pub little : ℕ → List ℕ → ℕ → ℕ
little zero b off = 0
little (suc n) b off = get_or b off 0 + 256 * little n b (off + 1)

-- that number, where the n bytes lie within b
unfoldable pub number_at : ℕ → List ℕ → ℕ → Answer ℕ
number_at n b off = if_le (off + n) (length b) (Ok (little n b off)) (Err Corrupt)

-- the n lowest bytes of x, the lowest first
unfoldable pub little_bytes : ℕ → ℕ → List ℕ
little_bytes zero x = []
little_bytes (suc n) x = (x % 256) ∷ little_bytes n (x / 256)
