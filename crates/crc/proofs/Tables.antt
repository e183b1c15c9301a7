-- A table whose words are eight shifts of their index gives the CRC; the rule of a table is one test.
use Prim.Native.Nat.{ℕ, zero, suc, ◌+◌, ◌%◌, ◌<◌}
use mathlib.Core.Path.{◌≡◌, refl, ◌∙◌}
use mathlib.Core.Bool.{Bool, true, ◌&&◌}
use mathlib.Core.List.{List, [], ◌∷◌, ◌++◌}
use native.Mathlib.Omega.{arith}
use native.Mathlib.Nat.{mod-lt, add-zero, zero-add, add-suc, suc-add, le_of_suc-le-suc, not-suc-le-zero}
use lib.Bits.{bit_xor}
use lib.Dec.{T, eqb, eqb→eq, leb, leb→le, lit<}
use lib.Ieee.Fits.{and_l, and_r}
use lib.ListN.{length, get_or}
use Rattle.crc.specs.Crc.{shifts, crc}
use Rattle.crc.specs.Tabled.{TableRule, step_by, crc_by}
use Rattle.crc.proofs.Shifts.{shifts_byte}

module _ (p : ℕ) where
  -- of the words from the i-th on
  abbrev pub words : ℕ → List ℕ → Bool
  words i [] = true
  words i (x ∷ xs) = eqb x (shifts p 8 i) && words (suc i) xs

  word : (xs : List ℕ) (i k : ℕ) → T (words i xs) → k < length xs → get_or xs k 0 ≡ shifts p 8 (i + k)
  word [] i k t h = absurd (not-suc-le-zero h)
  word (x ∷ xs) i zero t h = rw add-zero (eqb→eq x (shifts p 8 i) (and_l (eqb x (shifts p 8 i)) (words (suc i) xs) t))
  word (x ∷ xs) i (suc k) t h = rw (add-suc, ← suc-add) (word xs (suc i) k (and_r (eqb x (shifts p 8 i)) (words (suc i) xs) t) (le_of_suc-le-suc h))

  pub table_rule : (ws : List ℕ) → T (words 0 ws) → T (leb 256 (length ws)) → TableRule p ws
  table_rule ws t h = record { long = leb→le 256 (length ws) h; word = λ i k. word ws 0 i t (omega (arith, leb→le 256 (length ws) h)) ∙ rw (zero-add i) }

  module _ (ws : List ℕ) (rule : TableRule p ws) where
    pub step_by_lem : (c x : ℕ) → step_by ws c x ≡ shifts p 8 (bit_xor c x)
    unfolding step_by
    step_by_lem c x = rw (rule.word (bit_xor c x % 256) (mod-lt (bit_xor c x) (lit< tt)), shifts_byte p (bit_xor c x))

    pub crc_by_lem : (c : ℕ) (b : List ℕ) → crc_by ws c b ≡ crc p c b
    unfolding crc crc_by
    crc_by_lem c [] = refl
    crc_by_lem c (x ∷ b) = rw (step_by_lem c x) (crc_by_lem (shifts p 8 (bit_xor c x)) b)

    -- a register that was found by the table
    pub crc_tabled : (c : ℕ) (b : List ℕ) (r : ℕ) → r ≡ crc_by ws c b → r ≡ crc p c b
    crc_tabled c b r h = h ∙ crc_by_lem c b

-- the bytes of two lists, one after the other
pub crc_append : (ws : List ℕ) (c : ℕ) (a b : List ℕ) → crc_by ws c (a ++ b) ≡ crc_by ws (crc_by ws c a) b
unfolding crc_by
crc_append ws c [] b = refl
crc_append ws c (x ∷ a) b = crc_append ws (step_by ws c x) a b
