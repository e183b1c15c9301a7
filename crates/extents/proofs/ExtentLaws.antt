-- The tests of a file's extents, one step of each recursion, and what an extent that is allowed has passed.
use Prim.Native.Nat.{ℕ, ◌+◌, ◌*◌, ◌-◌, ◌/◌, ◌≤◌, ◌<◌, min, max}
use mathlib.Core.Path.{◌≡◌, refl, sym}
use mathlib.Core.List.{List, ◌∷◌}
use mathlib.Core.Logic.{◌⊎◌, inl, inr}
use native.Mathlib.Nat.{le-div_iff_mul-le, div-lt_iff_lt-mul, div-mul-le_self, lt-div-mul-add}
use native.Mathlib.Omega.{arith}
use lib.ListN.{length}
use Rattle.error.specs.Answer.{Err}
use Rattle.error.specs.declared.Refusal.TheVariants.{Io, Overflow}
use Rattle.error.proofs.Laws.{at_most_lem, above, same, other}
use Rattle.extents.specs.Verdict.{fine, ◌>>◌}
use Rattle.extents.specs.Extents.{Disk, end, top, blocks, seek, counted, lies, reach, allows, decide}
use Rattle.extents.proofs.Verdicts.{was_above, was_other, le_or_gt, passed, went}
use Rattle.records.specs.declared.extent.Extent.{Extent}

-- ---- blocks

module _ (bs : ℕ) (pos : 0 < bs) where
  pub blocks_hold : (n : ℕ) → n ≤ blocks bs n * bs
  unfolding blocks
  blocks_hold n = omega (arith, lt-div-mul-add {a = n + (bs - 1)} pos)

  pub blocks_mono : (m n : ℕ) → m ≤ n → blocks bs m ≤ blocks bs n
  unfolding blocks
  blocks_mono m n h = (le-div_iff_mul-le pos).1 (omega (arith, div-mul-le_self (m + (bs - 1)) bs))

  pub block_below : (a n : ℕ) → a < n → a / bs < blocks bs n
  block_below a n h = (div-lt_iff_lt-mul pos).1 (omega (arith, blocks_hold n))

-- ---- one step of each recursion

module _ (d : Disk) (off stop : ℕ) (e : Extent) (es : List Extent) where
  pub decide_stop : stop ≤ e.logical → decide d off stop (e ∷ es) ≡ fine
  unfolding decide
  decide_stop h = sym (at_most_lem _ _ _ _ _ h refl)

  pub decide_goes : e.logical < stop → decide d off stop (e ∷ es) ≡ (allows d off stop e >> decide d off stop es)
  unfolding decide
  decide_goes h = sym (above _ _ _ _ _ h refl)

module _ (off : ℕ) (best : List Extent) (e : Extent) (es : List Extent) where
  pub seek_takes : e.logical ≤ off → seek off best (e ∷ es) ≡ seek off (e ∷ es) es
  unfolding seek
  seek_takes h = sym (at_most_lem _ _ _ _ _ h refl)

  pub seek_stays : off < e.logical → seek off best (e ∷ es) ≡ best
  unfolding seek
  seek_stays h = sym (above _ _ _ _ _ h refl)

-- ---- what is refused

-- the bytes of e that are wanted, where there are any, and it is not sparse
pub record Touched (off stop : ℕ) (e : Extent) : Type 0 where
  pub some : max off e.logical < min stop (end e)
  pub real : 0 < e.phys_block

module _ (d : Disk) (p q : ℕ) where
  pub lies_is : p * d.block ≤ top → q * d.block ≤ length d.image → lies d p q ≡ fine
  unfolding lies
  lies_is h k = sym (at_most_lem _ _ _ _ _ h (at_most_lem _ _ _ _ _ k refl))

  pub lies_wide : top < p * d.block → lies d p q ≡ Err Overflow
  unfolding lies
  lies_wide h = sym (above _ _ _ _ _ h refl)

  pub lies_past : p * d.block ≤ top → length d.image < q * d.block → lies d p q ≡ Err Io
  unfolding lies
  lies_past h k = sym (at_most_lem _ _ _ _ _ h (above _ _ _ _ _ k refl))

  pub lies_within : lies d p q ≡ fine → q * d.block ≤ length d.image
  unfolding lies
  lies_within w = (passed _ _ _ _ _ (passed _ _ _ _ _ w).1).0

module _ (d : Disk) (off stop : ℕ) (e : Extent) where
  -- what is asked of a touched extent
  abbrev pub Sound : Type 0
  Sound = reach d e (max off e.logical - e.logical) (min stop (end e) - e.logical) ≡ fine

  pub allowed_end : allows d off stop e ≡ fine → end e ≤ top
  unfolding allows
  allowed_end w = (passed _ _ _ _ _ w).0

  pub allowed_sound : allows d off stop e ≡ fine → Touched off stop e → Sound
  unfolding allows
  allowed_sound w t = was_other _ _ _ _ _ (λ q. omega (arith, t.real)) (was_above _ _ _ _ _ t.some (passed _ _ _ _ _ w).1)

  pub sound_allowed : end e ≤ top → (Touched off stop e → Sound) → allows d off stop e ≡ fine
  unfolding allows
  sound_allowed h s = go (le_or_gt (min stop (end e)) (max off e.logical)) (le_or_gt e.phys_block 0)
    where
      go : (min stop (end e) ≤ max off e.logical) ⊎ (max off e.logical < min stop (end e)) → (e.phys_block ≤ 0) ⊎ (0 < e.phys_block) → allows d off stop e ≡ fine
      go (inl t) u = sym (at_most_lem _ _ _ _ _ h (at_most_lem _ _ _ _ _ t refl))
      go (inr t) (inl u) = sym (at_most_lem _ _ _ _ _ h (above _ _ _ _ _ t (same _ _ _ _ _ (omega arith) refl)))
      go (inr t) (inr u) = sym (at_most_lem _ _ _ _ _ h (above _ _ _ _ _ t (other _ _ _ _ _ (λ q. omega arith) (sym (s (record { some = t; real = u }))))))

pub reach_within : (d : Disk) (e : Extent) (a b : ℕ) → 0 < d.block → reach d e a b ≡ fine → e.phys_block * d.block + b ≤ length d.image
unfolding reach
reach_within d e a b pos w = omega (arith, lies_within d _ _ (went (counted d e) _ _ w).1, blocks_hold d.block pos b)
