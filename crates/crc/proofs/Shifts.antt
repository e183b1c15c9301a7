-- Eight shifts at once: the word of the low byte, and the rest moved down. No lemma needs a fact about the polynomial.
use Prim.Native.Nat.{ℕ, zero, suc, ◌*◌, ◌/◌, ◌%◌, ◌^◌, ◌<◌}
use mathlib.Core.Path.{◌≡◌, refl, sym, ◌∙◌}
use mathlib.Core.Bool.{Bool, true, false}
use native.Mathlib.Omega.{arith}
use native.Mathlib.Nat.{mod-lt}
use lib.Arith.{bin_ind}
use lib.Bits.{bit_xor, xor_add_and, xor_shr, xor_mod, xor_comm, xor_zero_r, xor_shifted, shifted_half, shifted_even}
use lib.Dec.{eqb, lit<}
use Rattle.error.specs.Answer.{pick, if_eq}
use Rattle.crc.specs.Crc.{shift, shifts}

xor_assoc : (a b c : ℕ) → bit_xor (bit_xor a b) c ≡ bit_xor a (bit_xor b c)
xor_assoc =
    bin_ind (λ (n : ℕ). (b c : ℕ) → bit_xor (bit_xor n b) c ≡ bit_xor n (bit_xor b c)) (λ b c. refl)
    (λ n ih b c.
    let h : bit_xor (bit_xor n b) c / 2 ≡ bit_xor n (bit_xor b c) / 2 = rw (xor_shr (bit_xor n b) c 1, xor_shr n b 1, xor_shr n (bit_xor b c) 1, xor_shr b c 1) (ih (b / 2) (c / 2)) in
    omega (arith, xor_add_and n b, xor_add_and (bit_xor n b) c, xor_add_and b c, xor_add_and n (bit_xor b c)))

xor_swap : (a b c d : ℕ) → bit_xor (bit_xor a b) (bit_xor c d) ≡ bit_xor (bit_xor a c) (bit_xor b d)
xor_swap a b c d = rw (xor_assoc a b (bit_xor c d), ← xor_assoc b c d, xor_comm b c, xor_assoc c b d, xor_assoc a c (bit_xor b d))

xor_self : (a : ℕ) → bit_xor a a ≡ 0
xor_self = bin_ind (λ (n : ℕ). bit_xor n n ≡ 0) refl (λ n ih. let h : bit_xor n n / 2 ≡ 0 = rw (xor_shr n n 1) ih in omega (arith, xor_add_and n n, h))

module _ (p : ℕ) where
  -- what a shift adds for the bit that falls out
  added : ℕ → ℕ
  added d = if_eq d 1 p 0

  added_xor : (d e : ℕ) → d < 2 → e < 2 → added (bit_xor d e) ≡ bit_xor (added d) (added e)
  unfolding added if_eq
  added_xor zero e hd he = refl
  added_xor (suc zero) zero hd he = sym (xor_zero_r p)
  added_xor (suc zero) (suc zero) hd he = sym (xor_self p)
  added_xor (suc zero) (suc (suc e)) hd he = absurd (omega arith)
  added_xor (suc (suc d)) e hd he = absurd (omega arith)

  shift_adds : (c : ℕ) → shift p c ≡ bit_xor (c / 2) (added (c % 2))
  unfolding shift added if_eq
  shift_adds c = of (eqb (c % 2) 1)
    where
      of : (d : Bool) → pick d (bit_xor (c / 2) p) (c / 2) ≡ bit_xor (c / 2) (pick d p 0)
      of true = refl
      of false = sym (xor_zero_r (c / 2))

  shift_xor : (a b : ℕ) → shift p (bit_xor a b) ≡ bit_xor (shift p a) (shift p b)
  shift_xor a b =
      rw (shift_adds (bit_xor a b), shift_adds a, shift_adds b, xor_shr a b 1, xor_mod a b 1, added_xor (a % 2) (b % 2) (mod-lt a (lit< tt)) (mod-lt b (lit< tt)))
      (xor_swap (a / 2) (b / 2) (added (a % 2)) (added (b % 2)))

  shifts_xor : (n a b : ℕ) → shifts p n (bit_xor a b) ≡ bit_xor (shifts p n a) (shifts p n b)
  unfolding shifts
  shifts_xor zero a b = refl
  shifts_xor (suc n) a b = rw (shift_xor a b) (shifts_xor n (shift p a) (shift p b))

  -- n shifts of a number with n low zero bits move it down
  shifts_high : (n q : ℕ) → shifts p n (q * 2 ^ n) ≡ q
  unfolding shifts added if_eq
  shifts_high zero q = omega arith
  shifts_high (suc n) q = rw (shift_adds (q * 2 ^ suc n), shifted_half q n, shifted_even q n, xor_zero_r) (shifts_high n q)

  pub shifts_byte : (x : ℕ) → shifts p 8 x ≡ bit_xor (shifts p 8 (x % 256)) (x / 256)
  shifts_byte x =
      let s : bit_xor (x / 256 * 256) (x % 256) ≡ x = xor_shifted (x / 256) 8 (x % 256) (mod-lt x (lit< tt)) ∙ omega arith in
      let k : shifts p 8 (bit_xor (x / 256 * 256) (x % 256)) ≡ bit_xor (x / 256) (shifts p 8 (x % 256)) = shifts_xor 8 (x / 256 * 256) (x % 256) ∙ rw (shifts_high 8 (x / 256)) in
      rw s at k ∙ xor_comm (x / 256) (shifts p 8 (x % 256))
