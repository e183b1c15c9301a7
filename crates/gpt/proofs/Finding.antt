-- The first entry of a container's type, and where it lies.
use Prim.Native.Nat.{ℕ, suc, ◌+◌, ◌*◌, ◌-◌, ◌^◌, ◌≤◌, ◌<◌}
use mathlib.Core.Path.{◌≡◌, ◌∙◌}
use mathlib.Core.Bool.{Bool, true, false}
use mathlib.Core.List.{List}
use native.Mathlib.Omega.{arith}
use native.Mathlib.Nat.{mul-le-mul_right, sub-zero}
use borrow.Author.Rules.{rules}
use lib.ListN.{length}
use Rattle.error.specs.Answer.{Answer, Err, pick}
use Rattle.error.specs.declared.Refusal.TheVariants.{NoPartition}
use Rattle.byte_fields.specs.Number.{little}
use Rattle.byte_fields.specs.declared.Span.{Span}
use Rattle.gpt.specs.Table.{is_apfs, place_of, entry_in}
use Rattle.gpt.specs.declared.header.Table.{Table}

-- an entry lies in the array, and the array in the image
module _ (image : List ℕ) (t : Table) (i : ℕ) (h : i < t.count) (k : t.start + t.count * t.size ≤ length image) where
  ends : t.start + i * t.size + t.size ≤ length image
  ends =
      let m : suc i * t.size ≤ t.count * t.size = mul-le-mul_right t.size h in
      omega (arith, m, k)

  pub entry_product : length image ≤ 2 ^ 34 → i * t.size < 2 ^ 64
  entry_product l = omega (arith, ends)

  pub entry_place : length image ≤ 2 ^ 34 → t.start + i * t.size < 2 ^ 64
  entry_place l = omega (arith, ends)

  pub entry_field : length image ≤ 2 ^ 34 → (a : ℕ) → a ≤ 128 → t.start + i * t.size + a < 2 ^ 64
  entry_field l a m = omega (arith, ends)

  pub entry_type : 128 ≤ t.size → t.start + i * t.size + 16 ≤ length image
  entry_type w = omega (arith, ends)

  pub entry_number : 128 ≤ t.size → (a : ℕ) → a ≤ 120 → t.start + i * t.size + a + 8 ≤ length image
  entry_number w a m = omega (arith, ends)

pub entries_start : (image : List ℕ) (t : Table) → entry_in image t (t.count - 0) 0 ≡ entry_in image t t.count 0
entries_start image t = rw sub-zero

module _ (image : List ℕ) (t : Table) (i : ℕ) (whole : Answer Span) (p : entry_in image t (t.count - i) i ≡ whole) where
  pub entries_over : t.count ≤ i → Err NoPartition ≡ whole
  unfolding entry_in
  entries_over h = let e : t.count - i ≡ 0 = omega arith in rw e at p

  module _ (h : i < t.count) (d : Bool) (e : d ≡ is_apfs image (t.start + i * t.size)) where
    goes : pick d (place_of (length image) (little 8 image (t.start + i * t.size + 32)) (little 8 image (t.start + i * t.size + 40))) (entry_in image t (t.count - (i + 1)) (i + 1)) ≡ whole
    unfolding entry_in
    goes = let n : t.count - i ≡ suc (t.count - (i + 1)) = omega arith in rw e (rw n at p)

    pub entry_passed : d ≡ false → entry_in image t (t.count - (i + 1)) (i + 1) ≡ whole
    entry_passed q = rw q at goes

    pub entry_found_lem : (f l : ℕ) (z : Answer Span) → d ≡ true → f ≡ little 8 image (t.start + i * t.size + 32) → l ≡ little 8 image (t.start + i * t.size + 40) → z ≡ place_of (length image) f l → z ≡ whole
    entry_found_lem f l z q ef el k = k ∙ rw (ef, el) (rw q at goes)

pub ruleset finding = (rules, entry_product, entry_place, entry_field, entry_type, entry_number, entries_start, entries_over, entry_passed, entry_found_lem)
