-- The part of an image: an image with NXSB at byte 32 is its own part, a part lies in its image, and a part that begins a container is its own part.
use Prim.Native.Nat.{ℕ, zero, suc, ◌+◌, ◌*◌, ◌-◌, ◌^◌, ◌≤◌}
use mathlib.Core.Path.{◌≡◌, refl, sym, ◌∙◌}
use mathlib.Core.Bool.{Bool, true, false}
use mathlib.Core.List.{List}
use native.Mathlib.Omega.{arith}
use lib.ListN.{length}
use lib.Seq.{take-length}
use Rattle.error.specs.Answer.{Answer, Ok, pick}
use Rattle.error.proofs.Laws.{at_most_lem, same, le_cases, eq_cases, bound}
use Rattle.byte_fields.specs.Number.{little}
use Rattle.byte_fields.specs.Part.{part_of}
use Rattle.byte_fields.specs.declared.Span.{Span}
use Rattle.byte_fields.proofs.Laws.{part_length}
use Rattle.gpt.specs.Table.{table_of, is_apfs, place_of, entry_in}
use Rattle.gpt.specs.Part.{part_of_image, on_part}
use Rattle.gpt.specs.declared.header.Table.{Table}
use Rattle.gpt.proofs.Headers.{Bounds, table_bounds}

module _ (image : List ℕ) where
  module _ (r : Answer Table) (a : Table) (t : r ≡ table_of image) (g : r ≡ Ok a) where
    bounds : Bounds image a
    bounds = table_bounds image a (sym t ∙ g)

    pub entries_within : a.start + a.count * a.size ≤ length image
    entries_within = bounds.within

    pub entries_wide : 128 ≤ a.size
    entries_wide = bounds.wide

pub ruleset parts = (entries_within, entries_wide)

-- ---- the theorems

pub whole : (image : List ℕ) → length image ≤ 2 ^ 34 → 4096 ≤ length image → little 4 image 32 ≡ 0x4253584E → part_of_image image ≡ Ok (record { start = 0; len = length image })
unfolding part_of_image
whole image h k e = sym (at_most_lem _ _ _ _ _ h (at_most_lem _ _ _ _ _ k (same _ _ _ _ _ e refl)))

module _ (size first last : ℕ) (s : Span) where
  place_inside : place_of size first last ≡ Ok s → s.start + s.len ≤ size
  unfolding place_of
  place_inside =
      le_cases (λ (a : Answer Span). a ≡ Ok s → s.start + s.len ≤ size)
      (λ h. le_cases (λ (a : Answer Span). a ≡ Ok s → s.start + s.len ≤ size)
      (λ k e. let z : record { start = 512 * first; len = 512 * (last + 1 - first) } ≡ s = cc in rw (← z) (omega (arith, h, k))) (λ k e. absurd (let z : ◌≡◌ {A = ℕ} 0 1 = cc in omega arith)))
      (λ h e. absurd (let z : ◌≡◌ {A = ℕ} 0 1 = cc in omega arith))

module _ (image : List ℕ) (t : Table) (s : Span) where
  entry_inside : (n i : ℕ) → entry_in image t n i ≡ Ok s → s.start + s.len ≤ length image
  unfolding entry_in
  entry_inside zero i e = absurd (let z : ◌≡◌ {A = ℕ} 0 1 = cc in omega arith)
  entry_inside (suc n) i e = of (is_apfs image (t.start + i * t.size)) (entry_inside n (i + 1)) e
    where
      of : (d : Bool) → (entry_in image t n (i + 1) ≡ Ok s → s.start + s.len ≤ length image) → pick d (place_of (length image) (little 8 image (t.start + i * t.size + 32)) (little 8 image (t.start + i * t.size + 40))) (entry_in image t n (i + 1)) ≡ Ok s → s.start + s.len ≤ length image
      of true f g = place_inside (length image) _ _ s g
      of false f g = f g

-- what an image whose part was found has
pub record Inside (image : List ℕ) (s : Span) : Type 0 where
  pub within : s.start + s.len ≤ length image
  pub small : length image ≤ 2 ^ 34

pub inside : (image : List ℕ) (s : Span) → part_of_image image ≡ Ok s → Inside image s
unfolding part_of_image
inside image s =
    le_cases (λ (a : Answer Span). a ≡ Ok s → Inside image s)
    (λ small. le_cases (λ (a : Answer Span). a ≡ Ok s → Inside image s)
    (λ k. eq_cases (λ (a : Answer Span). a ≡ Ok s → Inside image s)
    (λ h e. let z : record { start = 0; len = length image } ≡ s = cc in record { within = rw (← z) (omega arith); small = small })
    (λ h e. let b = bound (table_of image) (λ t. entry_in image t t.count 0) s e in record { within = entry_inside image b.0 s b.0.count 0 b.1.1; small = small }))
    (λ k e. absurd (let z : ◌≡◌ {A = ℕ} 0 1 = cc in omega arith)))
    (λ h e. absurd (let z : ◌≡◌ {A = ℕ} 0 1 = cc in omega arith))

pub inside_length : (image : List ℕ) (s : Span) → part_of_image image ≡ Ok s → (length (part_of image s) ≡ s.len) × (length (part_of image s) ≤ length image)
inside_length image s e = let l : length (part_of image s) ≡ s.len = part_length image s (inside image s e).within in (l, omega (arith, l, (inside image s e).within))

pub inside_small : (image : List ℕ) (s : Span) → part_of_image image ≡ Ok s → length (part_of image s) ≤ 2 ^ 34
inside_small image s e = omega (arith, (inside_length image s e).1, (inside image s e).small)

-- a part that begins a container is its own part
pub again : (image : List ℕ) (s : Span) → part_of_image image ≡ Ok s → 4096 ≤ length (part_of image s) → little 4 (part_of image s) 32 ≡ 0x4253584E
    → part_of_image (part_of image s) ≡ Ok (record { start = 0; len = length (part_of image s) })
again image s e k m = whole (part_of image s) (inside_small image s e) k m

pub part_self : (b : List ℕ) → part_of b (record { start = 0; len = length b }) ≡ b
unfolding part_of
part_self b = take-length b

-- so a host may pass the part in place of the image: every call answers the same
pub passed : {A : Type 0} (f : List ℕ → Answer A) (image : List ℕ) (s : Span) → part_of_image image ≡ Ok s → 4096 ≤ length (part_of image s) → little 4 (part_of image s) 32 ≡ 0x4253584E
    → on_part f (part_of image s) ≡ on_part f image
passed f image s e k m = rw (again image s e k m, e, part_self (part_of image s))
