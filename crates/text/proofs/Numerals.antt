-- A number's digits, the last first, from the end of a buffer on.
use Prim.Native.Nat.{ℕ, zero, suc, ◌+◌, ◌*◌, ◌-◌, ◌/◌, ◌%◌, ◌^◌, ◌≤◌, ◌<◌}
use mathlib.Core.Path.{◌≡◌, ◌∙◌}
use mathlib.Core.List.{List, [], ◌∷◌}
use lib.ListN.{length, length-set, set, drop}
use lib.Seq.{drop-cons, drop-set-lt, get_or-set_same}
use native.Mathlib.Nat.{pow-suc}
use native.Mathlib.Omega.{arith}
use Rattle.text.specs.Words.{digits}
use Rattle.text.proofs.Digits.{digits_small, digits_large}

-- one digit fewer
pub fewer : (m i : ℕ) → 9 < m → m < 10 ^ i → (2 ≤ i) × (m / 10 < 10 ^ (i - 1))
fewer m zero h k = absurd (omega arith)
fewer m (suc zero) h k = absurd (omega arith)
fewer m (suc (suc i)) h k =
    let e : 10 ^ suc (suc i) ≡ 10 ^ suc i * 10 = pow-suc 10 (suc i) in
    let f : suc (suc i) - 1 ≡ suc i = omega arith in
    let g : m < 10 ^ suc i * 10 = rw e at k in
    (omega arith, rw f (omega arith))

pub enough : (n : ℕ) → n < 2 ^ 64 → n < 10 ^ 20
enough n h = omega arith

put_before : (ds : List ℕ) (i x : ℕ) → 1 ≤ i → i ≤ length ds → drop (i - 1) (set ds (i - 1) x) ≡ x ∷ drop i ds
put_before ds i x h k =
    let j : i - 1 < length ds = omega arith in
    let l : i - 1 < length (set ds (i - 1) x) = rw (length-set ds (i - 1) x) j in
    let s : suc (i - 1) ≡ i = omega arith in
    let t : i - 1 < i = omega arith in
    rw (drop-cons (set ds (i - 1) x) (i - 1) 0 l, get_or-set_same ds (i - 1) x 0 j, s, drop-set-lt i ds (i - 1) x t)

module _ (n m i : ℕ) (ds : List ℕ) (p : digits m (drop i ds) ≡ digits n []) (h : 1 ≤ i) (k : i ≤ length ds) where
  pub numeral_next : 9 < m → digits (m / 10) (drop (i - 1) (set ds (i - 1) (48 + m % 10))) ≡ digits n []
  numeral_next l =
      let g : 10 ≤ m = omega arith in
      rw (put_before ds i (48 + m % 10) h k, ← digits_large m (drop i ds) g) p

  pub numeral_last : m ≤ 9 → drop (i - 1) (set ds (i - 1) (48 + m)) ≡ digits n []
  numeral_last l =
      let g : m < 10 = omega arith in
      rw (put_before ds i (48 + m) h k, ← digits_small m (drop i ds) g) p

-- m is what is left of n, and its digits go before the i-th
abbrev pub Left : ℕ → ℕ → ℕ → List ℕ → Type 0
Left n m i ds = (1 ≤ i) × (i ≤ 20) × (m < 10 ^ i) × (length ds ≡ 20) × (digits m (drop i ds) ≡ digits n [])

pub left_again : (n m i : ℕ) (ds : List ℕ) → Left n m i ds → 9 < m → Left n (m / 10) (i - 1) (set ds (i - 1) (48 + m % 10))
left_again n m i ds l h =
    let k : i ≤ length ds = omega (arith, l.1, l.3) in
    let f = fewer m i h l.2 in
    (omega (arith, f.0), omega (arith, l.1), f.1, length-set ds (i - 1) (48 + m % 10) ∙ l.3, numeral_next n m i ds l.4 l.0 k h)

pub left_last : (n m i : ℕ) (ds : List ℕ) → Left n m i ds → m ≤ 9 → (i - 1 ≤ 20) × (length (set ds (i - 1) (48 + m)) ≡ 20) × (drop (i - 1) (set ds (i - 1) (48 + m)) ≡ digits n [])
left_last n m i ds l h =
    let k : i ≤ length ds = omega (arith, l.1, l.3) in
    (omega (arith, l.1), length-set ds (i - 1) (48 + m) ∙ l.3, numeral_last n m i ds l.4 l.0 k h)
