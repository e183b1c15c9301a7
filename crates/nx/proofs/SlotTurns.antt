-- The turns of the loop over the volume slots: the volume among what is left is the volume among all.
use Prim.Native.Nat.{ℕ, suc, ◌+◌, ◌-◌, ◌*◌, ◌≤◌, ◌<◌}
use mathlib.Core.Path.{◌≡◌, refl, sym, ap, ◌∙◌}
use mathlib.Core.List.{List, ◌∷◌}
use native.Mathlib.Nat.{sub-zero}
use native.Mathlib.Omega.{arith}
use borrow.Author.Rules.{rules}
use Rattle.error.specs.Answer.{Answer, Ok, Err}
use Rattle.error.specs.declared.Refusal.{Refusal}
use Rattle.error.specs.declared.Refusal.TheVariants.{NotFound}
use Rattle.error.proofs.Laws.{same, other}
use Rattle.byte_fields.specs.Number.{number_at}
use Rattle.nx.specs.Slots.{slot_at, slot_of, slot_count, slots_in, volumes_of, volume_at}
use Rattle.checkpoints.specs.declared.superblock.Superblock.{Superblock}

module _ (b : List ℕ) (i : ℕ) (r : Answer ℕ) (p : r ≡ number_at 8 b (184 + 8 * i)) where
  pub slot_read : (x : ℕ) → r ≡ Ok x → x ≡ slot_at b i
  unfolding slot_at
  slot_read x q = rw (← p, q)

  pub slot_none : (e : Refusal) → r ≡ Err e → 0 ≡ slot_at b i
  unfolding slot_at
  slot_none e q = rw (← p, q)

pub slot_in_part : (s u : List ℕ) (i z : ℕ) → s ≡ u → z ≡ slot_at s i → z ≡ slot_at u i
slot_in_part s u i z e h = rw e at h

module _ (image : List ℕ) (sb : Superblock) where
  pub slots_start : (n index : ℕ) → n ≡ slot_count sb → volume_at index (slots_in image sb (n - 0) 0) ≡ volume_at index (volumes_of image sb)
  slots_start n index e = rw (sub-zero, e)

  module _ (n i left : ℕ) (whole : Answer ℕ) (p : volume_at left (slots_in image sb (n - i) i) ≡ whole) where
    pub slots_done : n ≤ i → Err NotFound ≡ whole
    unfolding slots_in volume_at
    slots_done h = let q : n - i ≡ 0 = omega arith in rw q at p

    module _ (h : i < n) (oid : ℕ) (e : oid ≡ slot_of image sb i) where
      pub slots_zero : oid ≡ 0 → volume_at left (slots_in image sb (n - (i + 1)) (i + 1)) ≡ whole
      unfolding slots_in
      slots_zero z =
          let q : n - i ≡ suc (n - (i + 1)) = omega arith in
          let k : slot_of image sb i ≡ 0 = sym e ∙ z in
          ap (volume_at left) (same _ _ _ _ _ k refl) ∙ (rw q at p)

      one : (oid ≡ 0 → ⊥) → volume_at left (oid ∷ slots_in image sb (n - (i + 1)) (i + 1)) ≡ whole
      unfolding slots_in
      one z =
          let q : n - i ≡ suc (n - (i + 1)) = omega arith in
          let k : slot_of image sb i ≡ 0 → ⊥ = λ t. z (e ∙ t) in
          rw e (ap (volume_at left) (other _ _ _ _ _ k refl) ∙ (rw q at p))

      pub slots_here : (oid ≡ 0 → ⊥) → left ≡ 0 → Ok oid ≡ whole
      unfolding volume_at
      slots_here z t = rw t at (one z)

      pub slots_past : (oid ≡ 0 → ⊥) → (left ≡ 0 → ⊥) → volume_at (left - 1) (slots_in image sb (n - (i + 1)) (i + 1)) ≡ whole
      unfolding volume_at
      slots_past z t = let q : left ≡ suc (left - 1) = omega arith in rw q at (one z)

pub ruleset slots = (rules, slot_read, slot_none, slots_start, slots_done, slots_zero, slots_here, slots_past)
