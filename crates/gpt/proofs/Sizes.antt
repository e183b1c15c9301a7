-- "its entry length 128 times a power of two": the sizes that are taken are those, and no others.
use Prim.Native.Nat.{ℕ, zero, suc, ◌+◌, ◌*◌, ◌-◌, ◌/◌, ◌%◌, ◌^◌, ◌≤◌, ◌<◌}
use mathlib.Core.Path.{◌≡◌, refl, sym, ap, ◌∙◌}
use mathlib.Core.Bool.{Bool, true, false}
use mathlib.Core.Logic.{◌↔◌}
use native.Mathlib.Omega.{arith}
use native.Mathlib.Nat.{pow-suc}
use borrow.Author.Tests.{leb-true, leb-false, le-leb, eqb-true}
use lib.Arith.{bin_ind}
use lib.Count.{ones, ones_step, ones_cat}
use lib.Dec.{leb, eqb}
use lib.Pow.{pow_mono, pow-add}
use Rattle.error.specs.Answer.{pick, if_le}
use Rattle.gpt.specs.Table.{size_fits}

ones_zero : ones 0 ≡ 0
unfolding ones
ones_zero = refl

no_bit : (n : ℕ) → ones n ≡ 0 → n ≡ 0
no_bit = bin_ind (λ (n : ℕ). ones n ≡ 0 → n ≡ 0) (λ e. refl) (λ n ih e. let h : n / 2 ≡ 0 = ih (omega (arith, ones_step n, e)) in omega (arith, ones_step n, e, h))

one_bit : (n : ℕ) → ones n ≡ 1 → (j : ℕ) × (n ≡ 2 ^ j)
one_bit = bin_ind (λ (n : ℕ). ones n ≡ 1 → (j : ℕ) × (n ≡ 2 ^ j)) (λ e. absurd (let z : ◌≡◌ {A = ℕ} 0 1 = sym ones_zero ∙ e in omega arith)) step
  where
    step : (n : ℕ) → (ones (n / 2) ≡ 1 → (j : ℕ) × (n / 2 ≡ 2 ^ j)) → ones n ≡ 1 → (j : ℕ) × (n ≡ 2 ^ j)
    step n ih e = of (n % 2) refl
      where
        of : (d : ℕ) → n % 2 ≡ d → (j : ℕ) × (n ≡ 2 ^ j)
        of zero q =
            let s = ih (omega (arith, ones_step n, e, q)) in
            (suc s.0, omega (arith, s.1, pow-suc 2 s.0, q))
        of (suc d) q = let h : n / 2 ≡ 0 = no_bit (n / 2) (omega (arith, ones_step n, e, q)) in (0, omega (arith, h, q, e, ones_step n))

power_ones : (j : ℕ) → ones (2 ^ j) ≡ 1
unfolding ones
power_ones j = let z : 1 * 2 ^ j + 0 ≡ 2 ^ j = omega arith in rw z at (ones_cat j 1 0 (let p : 2 ^ 0 ≤ 2 ^ j = pow_mono {i = 0} (omega arith) in omega (arith, p)))

-- 128 times a power is a power from the seventh on
power_128 : (k : ℕ) → 128 * 2 ^ k ≡ 2 ^ (7 + k)
power_128 k = sym (pow-add 2 7 k)

taken : (k : ℕ) → size_fits (128 * 2 ^ k) ≡ true
unfolding size_fits if_le
taken k =
    let p : 2 ^ 0 ≤ 2 ^ k = pow_mono {i = 0} (omega arith) in
    rw (le-leb 128 (128 * 2 ^ k) (omega (arith, p)), power_128 k, power_ones (7 + k))

of_power : (n j : ℕ) → 128 ≤ n → n ≡ 2 ^ j → (k : ℕ) × (n ≡ 128 * 2 ^ k)
of_power n j h e = of (leb 7 j) (leb-true 7 j) (leb-false 7 j)
  where
    of : (d : Bool) → (d ≡ true → 7 ≤ j) → (d ≡ false → j < 7) → (k : ℕ) × (n ≡ 128 * 2 ^ k)
    of true l g = (j - 7, let q : 7 + (j - 7) ≡ j = omega (arith, l refl) in e ∙ (rw q at (sym (power_128 (j - 7)))))
    of false l g = absurd (let p : 2 ^ j ≤ 2 ^ 6 = pow_mono {j = 6} (omega (arith, g refl)) in omega (arith, p, h, e))

pub size_fits_lem : (n : ℕ) → (size_fits n ≡ true) ↔ ((k : ℕ) × (n ≡ 128 * 2 ^ k))
unfolding size_fits if_le
size_fits_lem n = (of (leb 128 n) (leb-true 128 n), λ s. ap size_fits s.1 ∙ taken s.0)
  where
    of : (d : Bool) → (d ≡ true → 128 ≤ n) → pick d (eqb (ones n) 1) false ≡ true → (k : ℕ) × (n ≡ 128 * 2 ^ k)
    of true h e = let b = one_bit n (eqb-true (ones n) 1 e) in of_power n b.0 (h refl) b.1
    of false h e = absurd (let z : ◌≡◌ {A = ℕ} 0 1 = cc in omega arith)
