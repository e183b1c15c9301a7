-- A sound object, by its sums; and which replacements make one.
use Prim.Native.Nat.{ℕ, ◌+◌, ◌-◌, ◌*◌, ◌%◌, ◌^◌, ◌≤◌, ◌<◌}
use mathlib.Core.Path.{◌≡◌, refl, sym, ap, ◌∙◌}
use mathlib.Core.Bool.{true}
use mathlib.Core.List.{List}
use native.Mathlib.Nat.{mul-add, add-mul, one-mul}
use native.Mathlib.Omega.{arith}
use borrow.Author.Tests.{eq-eqb, eqb-true}
use lib.Dec.{eqb}
use lib.ListN.{length}
use Rattle.error.proofs.Laws.{at_most_lem, same}
use Rattle.byte_fields.specs.Number.{little}
use Rattle.byte_fields.proofs.Laws.{joined}
use Rattle.checksum.specs.Fletcher.{M, s1, s2, checksum, valid}
use Rattle.wrong_word.specs.Inner.{Sound}
use Rattle.wrong_word.proofs.Modulus.{complement, completes, congruent}

-- the stored halves are the checksum's exactly where the sums are sound
module _ (s t x y : ℕ) (h : x ≤ M) (k : y ≤ M) where
  abbrev c1 : ℕ
  c1 = M - (s + t) % M

  abbrev c2 : ℕ
  c2 = M - (s + c1) % M

  pub halves_sound : x + 4294967296 * y ≡ c1 + 4294967296 * c2 → Sound s t x y
  halves_sound e =
      let p : x ≡ c1 = omega arith in
      let q : y ≡ M - (s + x) % M = omega arith in
      record { low = omega arith; high = omega arith; both = completes (s + t) x p; one = completes (s + x) y q }

  pub sound_halves : Sound s t x y → x + 4294967296 * y ≡ c1 + 4294967296 * c2
  sound_halves w =
      let p : x ≡ c1 = complement (s + t) x w.low h w.both in
      let q : y ≡ M - (s + x) % M = complement (s + x) y w.high k w.one in
      omega arith

module _ (b : List ℕ) (long : 32 ≤ length b) (even : length b % 4 ≡ 0) where
  compared : valid b ≡ eqb (little 8 b 0) (checksum b)
  unfolding valid
  compared = sym (at_most_lem _ _ _ _ _ long (same _ _ _ _ _ even refl))

  abbrev SoundObject : Type 0
  SoundObject = Sound (s1 b) (s2 b) (little 4 b 0) (little 4 b 4)

  stored : little 4 b 0 + 4294967296 * little 4 b 4 ≡ little 8 b 0
  stored = joined 4 4 b 0 (little 4 b 0) (little 4 b 4) refl refl

  module _ (low : little 4 b 0 < 256 ^ 4) (high : little 4 b 4 < 256 ^ 4) where
    pub valid_sound : valid b ≡ true → SoundObject
    unfolding checksum
    valid_sound e =
        halves_sound (s1 b) (s2 b) (little 4 b 0) (little 4 b 4) (omega arith) (omega arith)
        (stored ∙ eqb-true (little 8 b 0) (checksum b) (sym compared ∙ e))

    pub sound_valid : SoundObject → valid b ≡ true
    unfolding checksum
    sound_valid w =
        compared ∙ eq-eqb (little 8 b 0) (checksum b)
        (sym stored ∙ sound_halves (s1 b) (s2 b) (little 4 b 0) (little 4 b 4) (omega arith) (omega arith) w)

-- of two sums, a with v being c with w, c is a multiple of M exactly where a and i are: v and w with i are the same modulo M
module _ (a c v w i : ℕ) (p : c + w ≡ a + v) (q : (v + a) % M ≡ (w + i + a) % M) where
  there : c % M ≡ 0 → (a + i) % M ≡ 0
  there e = omega arith

  back : (a + i) % M ≡ 0 → c % M ≡ 0
  back e = omega arith

-- the sums before (s, t) and after (u, r) a word w that counts k times is replaced by v; d is what s lacks
module _ (s t u r x y w v k d : ℕ) (p : u + w ≡ s + v) (q : r + k * w ≡ t + k * v) (e : d ≡ M - (s + x + y) % M) where
  differ : u + r + x + (k + 1) * w ≡ s + t + x + (k + 1) * v
  differ = rw (add-mul k 1 w, add-mul k 1 v, one-mul) (omega (arith, p, q))

  even_with : v % M ≡ (w + d) % M → ((k + 1) * v + (s + t + x)) % M ≡ ((k + 1) * w + (k + 1) * d + (s + t + x)) % M
  even_with a = congruent v (w + d) (k + 1) (s + t + x) a ∙ ap (λ (n : ℕ). (n + (s + t + x)) % M) (mul-add (k + 1) w d)

  pub closed_one : (u + x + y) % M ≡ 0 → v % M ≡ (w + d) % M
  closed_one o = omega (arith, p, e)

  pub closing_one : v % M ≡ (w + d) % M → (u + x + y) % M ≡ 0
  closing_one o = omega (arith, p, e)

  pub closed : Sound u r x y → (v % M ≡ (w + d) % M) × ((s + t + x + (k + 1) * d) % M ≡ 0)
  closed o =
      let a : v % M ≡ (w + d) % M = closed_one o.one in
      (a, there (s + t + x) (u + r + x) ((k + 1) * v) ((k + 1) * w) ((k + 1) * d) differ (even_with a) o.both)

  pub closing : 0 < x → 0 < y → v % M ≡ (w + d) % M → (s + t + x + (k + 1) * d) % M ≡ 0 → Sound u r x y
  closing l m a z =
      record { low = l; high = m; both = back (s + t + x) (u + r + x) ((k + 1) * v) ((k + 1) * w) ((k + 1) * d) differ (even_with a) z; one = closing_one a }
