-- Whether a header is intact, and what holds of the table then.
use Prim.Native.Nat.{ℕ, ◌+◌, ◌*◌, ◌-◌, ◌/◌, ◌^◌, ◌≤◌, ◌<◌}
use mathlib.Core.Path.{◌≡◌, refl, sym, ◌∙◌}
use mathlib.Core.Bool.{Bool, true, false}
use mathlib.Core.List.{List}
use native.Mathlib.Omega.{arith}
use borrow.Author.Rules.{rules}
use borrow.Author.Tests.{leb-true}
use lib.Count.{ones}
use lib.Dec.{leb, eqb}
use lib.ListN.{length}
use Rattle.error.specs.Answer.{Ok, Err, pick, if_le}
use Rattle.error.specs.declared.Refusal.TheVariants.{NoPartitionTable}
use Rattle.byte_fields.specs.Number.{little}
use Rattle.byte_fields.proofs.Laws.{part_length}
use Rattle.gpt.specs.Table.{crc32, sector_of, table_in, size_fits, array_of, array_intact, header_intact, intact, table_of}
use Rattle.gpt.specs.declared.header.Table.{Table}

pub table_made : (h u : List ℕ) (s c z : ℕ) → h ≡ u → s ≡ little 8 h 72 → c ≡ little 4 h 80 → z ≡ little 4 h 84 → record { start = 512 * s; count = c; size = z } ≡ table_in u
unfolding table_in
table_made h u s c z e p q r = rw (p, q, r, e)

pub sector_length : (image h : List ℕ) (lba : ℕ) → h ≡ sector_of image lba → 512 * lba + 512 ≤ length image → length h ≡ 512
unfolding sector_of
sector_length image h lba e k = rw e (part_length image (record { start = 512 * lba; len = 512 }) k)

-- of an intact header: the entries lie in the image, and each has 128 bytes at least
pub record Bounds (image : List ℕ) (t : Table) : Type 0 where
  pub within : t.start + t.count * t.size ≤ length image
  pub wide : 128 ≤ t.size

module _ (image h : List ℕ) where
  in_array : array_intact image h ≡ true → Bounds image (table_in h)
  unfolding array_intact size_fits if_le
  in_array = of (leb 128 (table_in h).size) (leb-true _ _) (eqb (ones (table_in h).size) 1) (leb ((table_in h).start + (table_in h).count * (table_in h).size) (length image)) (leb-true _ _)
    where
      of : (d : Bool) → (d ≡ true → 128 ≤ (table_in h).size) → (one : Bool) (f : Bool) → (f ≡ true → (table_in h).start + (table_in h).count * (table_in h).size ≤ length image)
          → pick (pick d one false) (pick f (eqb (crc32 (array_of image (table_in h))) (little 4 h 88)) false) false ≡ true → Bounds image (table_in h)
      of true w true true k e = record { within = k refl; wide = w refl }
      of true w true false k e = absurd (let z : ◌≡◌ {A = ℕ} 0 1 = cc in omega arith)
      of true w false f k e = absurd (let z : ◌≡◌ {A = ℕ} 0 1 = cc in omega arith)
      of false w one f k e = absurd (let z : ◌≡◌ {A = ℕ} 0 1 = cc in omega arith)

pub intact_bounds : (image : List ℕ) (lba : ℕ) → intact image lba ≡ true → Bounds image (table_in (sector_of image lba))
unfolding intact
intact_bounds image lba = of (header_intact (sector_of image lba) lba)
  where
    of : (d : Bool) → pick d (array_intact image (sector_of image lba)) false ≡ true → Bounds image (table_in (sector_of image lba))
    of true e = in_array image (sector_of image lba) e
    of false e = absurd (let z : ◌≡◌ {A = ℕ} 0 1 = cc in omega arith)

-- the entries of an intact header start where a number of 64 bits reaches
pub table_starts : (image h : List ℕ) (r : Bool) (x : ℕ) → r ≡ array_intact image h → r ≡ true → length image ≤ 2 ^ 34 → x ≡ little 8 h 72 → 512 * x < 2 ^ 64
unfolding table_in
table_starts image h r x t e k q = rw q (omega (arith, (in_array image h (sym t ∙ e)).within, k))

module _ (image : List ℕ) (t : Table) where
  pub table_bounds : table_of image ≡ Ok t → Bounds image t
  unfolding table_of
  table_bounds = of (intact image 1) (intact_bounds image 1) (intact image (length image / 512 - 1)) (intact_bounds image (length image / 512 - 1))
    where
      of : (d : Bool) → (d ≡ true → Bounds image (table_in (sector_of image 1))) → (f : Bool) → (f ≡ true → Bounds image (table_in (sector_of image (length image / 512 - 1))))
          → pick d (Ok (table_in (sector_of image 1))) (pick f (Ok (table_in (sector_of image (length image / 512 - 1)))) (Err NoPartitionTable)) ≡ Ok t → Bounds image t
      of true g f h e = let z : table_in (sector_of image 1) ≡ t = cc in rw (← z) (g refl)
      of false g true h e = let z : table_in (sector_of image (length image / 512 - 1)) ≡ t = cc in rw (← z) (h refl)
      of false g false h e = absurd (let z : ◌≡◌ {A = ℕ} 0 1 = cc in omega arith)

pub ruleset headers = (rules, table_made, sector_length, table_starts)
