-- The bytes of a number, and the number of bytes.
use Prim.Native.Nat.{ℕ, zero, suc, ◌+◌, ◌-◌, ◌*◌, ◌/◌, ◌%◌, ◌^◌, ◌≤◌, ◌<◌}
use mathlib.Core.Path.{◌≡◌, refl, sym, ap, ◌∙◌}
use mathlib.Core.List.{List, [], ◌∷◌, ◌++◌}
use mir.Syntax.{w8}
use mir.Val.{Fits}
use native.Mathlib.Nat.{add-zero, pow-suc, mod-add-div, sub-zero}
use native.Mathlib.Omega.{arith}
use borrow.Author.Rules.{rules}
use lib.ListN.{length, get_or, set}
use lib.Seq.{sets, get_or-set_other, set-get_or}
use Rattle.byte_fields.specs.Number.{little, little_bytes}

pub little_length : (n x : ℕ) → length (little_bytes n x) ≡ n
unfolding little_bytes
little_length zero x = refl
little_length (suc n) x = ap suc (little_length n (x / 256))

-- a number is read where its bytes stand
pub little_back : (n x : ℕ) (c : List ℕ) (off : ℕ) → x < 256 ^ n → ((i : ℕ) → i < n → get_or c (off + i) 0 ≡ get_or (little_bytes n x) i 0) → little n c off ≡ x
unfolding little little_bytes
little_back zero x c off h f = omega arith
little_back (suc n) x c off h f =
    let e : get_or c off 0 ≡ x % 256 = ap (λ (i : ℕ). get_or c i 0) (sym (add-zero off)) ∙ f 0 (omega arith) in
    let k : x / 256 < 256 ^ n = (let p : x < 256 ^ n * 256 = rw pow-suc at h in omega arith) in
    let g : little n c (off + 1) ≡ x / 256
    = little_back n (x / 256) c (off + 1) k (λ i j. let q : off + 1 + i ≡ off + suc i = omega arith in rw q (f (suc i) (omega arith))) in
    rw (e, g) (mod-add-div x 256)

-- a number depends on its own bytes
pub little_same : (n : ℕ) (b c : List ℕ) (off : ℕ) → ((i : ℕ) → off ≤ i → i < off + n → get_or b i 0 ≡ get_or c i 0) → little n b off ≡ little n c off
unfolding little
little_same zero b c off f = refl
little_same (suc n) b c off f =
    rw (f off (omega arith) (omega arith), little_same n b c (off + 1) (λ i h k. f i (omega arith) (omega arith)))

-- bytes before and after a run of stores
pub sets_before : (v b : List ℕ) (at i : ℕ) → i < at → get_or (sets b at v) i 0 ≡ get_or b i 0
sets_before [] b at i h = refl
sets_before (x ∷ v) b at i h = sets_before v (set b at x) (suc at) i (omega arith) ∙ get_or-set_other b at i x 0 (λ e. omega arith)

pub sets_after : (v b : List ℕ) (at i : ℕ) → at + length v ≤ i → get_or (sets b at v) i 0 ≡ get_or b i 0
sets_after [] b at i h = refl
sets_after (x ∷ v) b at i h = sets_after v (set b at x) (suc at) i (omega arith) ∙ get_or-set_other b at i x 0 (λ e. omega arith)

pub sets_append : (v w b : List ℕ) (at : ℕ) → sets b at (v ++ w) ≡ sets (sets b at v) (at + length v) w
sets_append [] w b at = rw add-zero
sets_append (x ∷ v) w b at = let q : suc at + length v ≡ at + suc (length v) = omega arith in sets_append v w (set b at x) (suc at) ∙ ap (λ (k : ℕ). sets (sets (set b at x) (suc at) v) k w) q

-- storing what is there changes nothing
pub stored : (n : ℕ) (b : List ℕ) (at : ℕ) → ((i : ℕ) → Fits w8 (get_or b i 0)) → sets b at (little_bytes n (little n b at)) ≡ b
unfolding little little_bytes
stored zero b at h = refl
stored (suc n) b at h =
    let lo : (get_or b at 0 + 256 * little n b (at + 1)) % 256 ≡ get_or b at 0 = omega (arith, h at) in
    let hi : (get_or b at 0 + 256 * little n b (at + 1)) / 256 ≡ little n b (at + 1) = omega (arith, h at) in
    let q : suc at ≡ at + 1 = omega arith in
    rw (lo, hi, set-get_or, q) (stored n b (at + 1) h)

-- the turns of the loop that stores
module _ (b₀ : List ℕ) (at n x : ℕ) where
  pub put_start : sets b₀ (at + 0) (little_bytes (n - 0) x) ≡ sets b₀ at (little_bytes n x)
  put_start = rw (add-zero, sub-zero)

  module _ (b : List ℕ) (i rest : ℕ) (p : sets b (at + i) (little_bytes (n - i) rest) ≡ sets b₀ at (little_bytes n x)) where
    pub put_turn : i < n → sets (set b (at + i) (rest % 256)) (at + (i + 1)) (little_bytes (n - (i + 1)) (rest / 256)) ≡ sets b₀ at (little_bytes n x)
    unfolding little_bytes
    put_turn h =
        let q : n - i ≡ suc (n - (i + 1)) = omega arith in
        let t : at + (i + 1) ≡ suc (at + i) = omega arith in
        rw t (rw q at p)

    pub put_done : n ≤ i → b ≡ sets b₀ at (little_bytes n x)
    unfolding little_bytes
    put_done h = let q : n - i ≡ 0 = omega arith in rw q at p

pub ruleset putting = (rules, put_start, put_turn, put_done)
