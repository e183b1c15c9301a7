-- The turns of the loop over an inode's extended fields.
use Prim.Native.Nat.{ℕ, suc, ◌+◌, ◌*◌, ◌-◌, ◌≤◌, ◌<◌}
use mathlib.Core.Path.{◌≡◌}
use mathlib.Core.List.{List}
use native.Mathlib.Omega.{arith}
use Rattle.error.specs.Answer.{Ok, Answer, ◌>>=◌}
use Rattle.byte_fields.specs.Number.{number_at}
use Rattle.inode_record.specs.Fields.{field_at, merged_of, next_off, fields_from, no_fields}
use Rattle.inode_record.specs.declared.fields.Fields.{Fields}

-- at the i-th of n fields, whose bytes lie at off: what is left is the whole, and off is no further than i fields of 65,536 bytes can bring it
pub record Going (v : List ℕ) (n i off : ℕ) (f : Fields) : Type 0 where
  pub goes : fields_from v (n - i) i off f ≡ fields_from v n 0 (96 + 4 * n) no_fields
  pub near : off ≤ 96 + 4 * n + 65536 * i

module _ (v : List ℕ) (n i off : ℕ) (f : Fields) (g : Going v n i off f) where
  pub ended : n ≤ i → Ok f ≡ fields_from v n 0 (96 + 4 * n) no_fields
  unfolding fields_from
  ended h = let q : n - i ≡ 0 = omega arith in rw q at g.goes

  -- the i-th is read, then those after it
  pub turn : i < n → (z : Answer Fields)
      → z ≡ (number_at 4 v (96 + 4 * i) >>= λ head. field_at v head off >>= λ h. fields_from v (n - (i + 1)) (i + 1) (next_off off head) (merged_of h f))
      → z ≡ fields_from v n 0 (96 + 4 * n) no_fields
  unfolding fields_from
  turn h z e = let k : n - i ≡ suc (n - (i + 1)) = omega arith in rw (← g.goes, k) e
