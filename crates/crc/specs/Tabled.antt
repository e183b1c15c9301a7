-- The same by a table of words, which the code goes by: it is `crc` of the polynomial whose rule the table has (`crc_by_lem`, proofs/Tables.antt).
use Rattle.std.specs.Prelude.{ℕ, ◌/◌, ◌%◌, ◌≤◌, ◌<◌, ◌≡◌, List, length, get_or, fold}
use Rattle.std.specs.Int.Bits.{bit_xor}
use Rattle.crc.specs.Crc.{shifts}

-- "each word is eight shift steps of its index"
pub record TableRule (p : ℕ) (ws : List ℕ) : Type 0 where
  pub long : 256 ≤ length ws
  pub word : (i : ℕ) → i < 256 → get_or ws i 0 ≡ shifts p 8 i

unfoldable pub step_by : List ℕ → ℕ → ℕ → ℕ
step_by ws c x = bit_xor (get_or ws (bit_xor c x % 256) 0) (bit_xor c x / 256)

unfoldable pub crc_by : List ℕ → ℕ → List ℕ → ℕ
crc_by ws c b = fold (step_by ws) c b
