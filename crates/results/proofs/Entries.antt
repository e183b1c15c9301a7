-- The result and the buffer of a call that answers how many entries it wrote.
use Prim.Native.Nat.{ℕ, ◌*◌, ◌^◌, ◌≤◌, ◌<◌}
use mathlib.Core.Path.{◌≡◌, ap, ◌∙◌}
use mathlib.Core.List.{List}
use native.Mathlib.Omega.{arith}
use lib.IntN.{ℤ}
use lib.ListN.{length}
use mir.Syntax.{w64}
use mir.Val.{to_z, of_z}
use Rattle.error.specs.Answer.{Ok, Answer, Err}
use Rattle.error.proofs.Laws.{le_cases}
use Rattle.calls.specs.Filled.{Filled, filled_at, entries_in}
use Rattle.results.specs.Call.{number, result_at, Within}
use Rattle.results.proofs.Results.{result_back}

-- no more entries than bytes
pub entries_within : (k n : ℕ) (t b x : List ℕ) (r : Answer ℕ) → n ≤ k * n → length b * 1 < 2 ^ 63 → filled_at r x ≡ entries_in k n t b → Within r
entries_within k n t b x r w s p = of r (ap (λ (f : Filled). f.answer) p)
  where
    of : (r : Answer ℕ) → (filled_at r x).answer ≡ (entries_in k n t b).answer → Within r
    of (Ok m) =
        le_cases (λ (f : Filled). Ok m ≡ f.answer → m < 2 ^ 63) (λ h e. let q : m ≡ n = cc in omega arith)
        (λ h e. absurd (let z : ◌≡◌ {A = ℕ} 0 1 = cc in omega arith))
    of (Err e) = λ e. tt

module _ (f : Filled) (x : List ℕ) (r : Answer ℕ) (p : filled_at r x ≡ f) where
  pub counted_result : Within r → (z : ℤ) → z ≡ result_at r → to_z w64 (of_z w64 z) ≡ number f.answer
  counted_result w z e = rw e (result_back r w ∙ ap (λ (m : Filled). number m.answer) p)

  pub counted_buffer : x ≡ f.buffer
  counted_buffer = ap (λ (m : Filled). m.buffer) p
