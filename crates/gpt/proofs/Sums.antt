-- The sums, by the code's table.
use Prim.Native.Nat.{ℕ, ◌-◌, ◌≤◌}
use mathlib.Core.Path.{◌≡◌, sym, ◌∙◌}
use mathlib.Core.List.{List, [], ◌∷◌, ◌++◌}
use borrow.Author.Rules.{rules}
use lib.ListN.{length}
use Rattle.byte_fields.specs.Part.{part_of}
use Rattle.crc.specs.Tabled.{TableRule, crc_by}
use Rattle.crc.proofs.Tables.{crc_by_lem, crc_append}
use Rattle.gpt.specs.Table.{ieee, crc32, header_crc}

module _ (ws : List ℕ) (rule : TableRule ieee ws) where
  pub long : 256 ≤ length ws
  long = rule.long

  pub crc32_by : (b : List ℕ) (c : ℕ) → c ≡ crc_by ws 4294967295 b → 4294967295 - c ≡ crc32 b
  unfolding crc32
  crc32_by b c h = rw (h, crc_by_lem ieee ws rule 4294967295 b)

  pub header_by : (h head rest : List ℕ) (n x y z : ℕ) → head ≡ part_of h (record { start = 0; len = 16 }) → rest ≡ part_of h (record { start = 20; len = n - 20 })
      → x ≡ crc_by ws 4294967295 head → y ≡ crc_by ws x (0 ∷ 0 ∷ 0 ∷ 0 ∷ []) → z ≡ crc_by ws y rest → 4294967295 - z ≡ header_crc h n
  unfolding header_crc part_of
  header_by h head rest n x y z p q e f g =
      let a = crc_append ws 4294967295 head (0 ∷ 0 ∷ 0 ∷ 0 ∷ rest) ∙ crc_append ws (crc_by ws 4294967295 head) (0 ∷ 0 ∷ 0 ∷ 0 ∷ []) rest in
      rw (p, q) at (crc32_by (head ++ 0 ∷ 0 ∷ 0 ∷ 0 ∷ rest) z (g ∙ rw (f, e) (sym a)))

pub ruleset sums = (rules, long, crc32_by, header_by)
