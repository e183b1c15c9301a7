-- Blocks as the code counts them, and that the sums of `reach` fit.
use Prim.Native.Nat.{ℕ, ◌+◌, ◌/◌, ◌%◌, ◌≤◌, ◌<◌, min}
use mathlib.Core.Path.{◌≡◌, sym}
use mathlib.Core.Logic.{◌⊎◌, inl, inr}
use native.Mathlib.Nat.{div-add-mod', mod-lt, div-eq_of_lt-le}
use native.Mathlib.Omega.{arith}
use Rattle.records.specs.declared.extent.Extent.{Extent}
use Rattle.extents.specs.Verdict.{fine}
use Rattle.extents.specs.Extents.{top, blocks, counted_in}
use Rattle.extents.proofs.Verdicts.{passed, le_or_gt}
use Rattle.extents.proofs.ExtentLaws.{blocks_mono, block_below}

-- blocks of bs bytes
module _ (bs n : ℕ) (pos : 0 < bs) where
  pub blocks_even : n % bs ≡ 0 → n / bs ≡ blocks bs n
  unfolding blocks
  blocks_even h = sym (div-eq_of_lt-le bs (omega (arith, div-add-mod' n bs)) (omega (arith, div-add-mod' n bs)))

  pub blocks_odd : (n % bs ≡ 0 → ⊥) → n / bs + 1 ≡ blocks bs n
  unfolding blocks
  blocks_odd h = sym (div-eq_of_lt-le bs (omega (arith, div-add-mod' n bs)) (omega (arith, div-add-mod' n bs, mod-lt n pos)))

-- blocks as the code finds them: a quotient, and one more where some bytes are left
pub blocks_up : (bs n : ℕ) → 0 < bs → n / bs + min 1 (n % bs) ≡ blocks bs n
blocks_up bs n pos = of (le_or_gt (n % bs) 0)
  where
    of : (n % bs ≤ 0) ⊎ (0 < n % bs) → n / bs + min 1 (n % bs) ≡ blocks bs n
    of (inl h) = omega (arith, blocks_even bs n pos (omega arith))
    of (inr h) = omega (arith, blocks_odd bs n pos (λ z. omega arith))

-- the sums of `reach` fit, where the extent ends within the container
module _ (bs count : ℕ) (e : Extent) (p : fine ≡ counted_in bs count e) (pos : 0 < bs) where
  counted_end : e.phys_block + blocks bs e.len ≤ top
  unfolding counted_in
  counted_end = (passed _ _ _ _ _ (sym p)).0

  pub first_fits : (a b : ℕ) → a < b → b ≤ e.len → e.phys_block + a / bs ≤ top
  first_fits a b h k = omega (arith, counted_end, block_below bs pos a b h, blocks_mono bs pos b e.len k)

  pub last_fits : (b : ℕ) → b ≤ e.len → e.phys_block + blocks bs b ≤ top
  last_fits b k = omega (arith, counted_end, blocks_mono bs pos b e.len k)

pub ruleset sums = (first_fits, last_fits)
