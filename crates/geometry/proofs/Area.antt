-- The descriptor area lies within the image.
use Prim.Native.Nat.{ℕ, ◌+◌, ◌*◌, ◌^◌, ◌≤◌, ◌<◌}
use mathlib.Core.Path.{◌≡◌, refl, sym, ap, ◌∙◌}
use Rattle.error.proofs.Laws.{le_cases}
use native.Mathlib.Omega.{arith}
use Rattle.error.specs.Answer.{Answer, Ok, Err, ◌>>=◌}
use Rattle.error.specs.declared.Refusal.{Refusal}
use Rattle.error.specs.declared.Refusal.TheVariants.{Io}
use Rattle.byte_fields.specs.Part.{span_at}
use Rattle.byte_fields.specs.declared.Span.{Span}
use Rattle.arith.specs.Checked.{product_of}
use Rattle.geometry.specs.BlockZero.{area_at}
use Rattle.geometry.specs.declared.Geometry.{Geometry}

-- a span that was got ends within the bytes
span_ends : (e : Refusal) (size off len : ℕ) (s : Span) → span_at e size off len ≡ Ok s → off + len ≤ size
unfolding span_at
span_ends e size off len s =
    le_cases (λ (a : Answer Span). a ≡ Ok s → off + len ≤ size) (λ h q. h)
    (λ h q. absurd (let z : ◌≡◌ {A = ℕ} 0 1 = cc in omega arith))

pub area_fits : (size : ℕ) (g : Geometry) (r : Answer ℕ) (start : ℕ) → r ≡ area_at size g → r ≡ Ok start → size < 2 ^ 64 → start + g.ring * g.reader.block_size < 2 ^ 64
unfolding area_at
area_fits size g r start p q h = of (product_of g.base g.reader.block_size) (sym p ∙ q)
  where
    n : ℕ
    n = g.ring * g.reader.block_size

    of₂ : (x : ℕ) (b : Answer Span) → span_at Io size x n ≡ b → (b >>= λ s. Ok x) ≡ Ok start → start + n < 2 ^ 64
    of₂ x (Ok s) t e = let k : x ≡ start = cc in omega (arith, span_ends Io size x n s t)
    of₂ x (Err w) t e = absurd (let z : ◌≡◌ {A = ℕ} 0 1 = cc in omega arith)

    of : (a : Answer ℕ) → (a >>= λ x. span_at Io size x n >>= λ s. Ok x) ≡ Ok start → start + n < 2 ^ 64
    of (Ok x) e = of₂ x (span_at Io size x n) refl e
    of (Err w) e = absurd (let z : ◌≡◌ {A = ℕ} 0 1 = cc in omega arith)
