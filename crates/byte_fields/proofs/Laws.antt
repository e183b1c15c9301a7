-- Laws of `number_at`, `span_at` and `part_of`, each over the width.
use Prim.Native.Nat.{ℕ, zero, suc, ◌+◌, ◌*◌, ◌^◌, ◌-◌, ◌≤◌, ◌<◌, min}
use mathlib.Core.Path.{◌≡◌, refl, sym, ap, ◌∙◌}
use mathlib.Core.List.{List, [], ◌∷◌}
use mathlib.Core.Bool.{Bool, true, false, cond, not}
use mir.Syntax.{Width, w8}
use Rattle.std.proofs.lemmas.Bool.{cases_lt}
use Rattle.std.proofs.Common.{inl, inr, ◌⊎◌}
use borrow.Author.Tests.{ltb-false}
use Rattle.std.proofs.Common.{Some, None}
use Rattle.std.specs.List.{position_or_len}
use Rattle.std.specs.Int.{sum_through, byte_worth}
use mir.Val.{Fits, bits}
use lib.Dec.{T, leb, ltb, eqb, lit<}
use borrow.Author.Rules.{Fits-under, rules}
use lib.ListN.{length, get_or, take, drop, length-take, length-drop, drop_of_length-le}
use lib.Seq.{take_all, take-nil, get_or-take, get_or-drop}
use native.Mathlib.Omega.{arith}
use native.Mathlib.Nat.{zero-add, add-zero, suc-add, add_assoc, one-mul, mul-add, mul_assoc, mul_comm, pow-succ', pow-suc, mul-le-mul_left, mul-lt-mul_of_pos_right, lt_of_le_of_lt}
use Rattle.error.specs.Answer.{Answer, Ok, Err, ◌>>=◌, pick, if_le, if_eq}
use Rattle.error.specs.declared.Refusal.{Refusal}
use Rattle.error.specs.declared.Refusal.TheVariants.{Corrupt}
use Rattle.error.proofs.Laws.{at_most_lem, same, other, step, stop, tests}
use Rattle.byte_fields.specs.Number.{number_at, little}
use Rattle.byte_fields.specs.Part.{part_of, up_to_zero}
use Rattle.byte_fields.specs.declared.Span.{Span}

-- the number of m + n bytes is that of the first m, and the next n above it
join : (m n : ℕ) (b : List ℕ) (off : ℕ) → little (m + n) b off ≡ little m b off + 256 ^ m * little n b (off + m)
unfolding little
join zero n b off = simp (zero-add, add-zero, one-mul)
join (suc m) n b off =
    let e : off + 1 + m ≡ off + suc m = omega arith in
    rw (suc-add, join m n b (off + 1), pow-succ', e) (simp (mul-add, mul_assoc, add_assoc))

pub joined : (m n : ℕ) (b : List ℕ) (off x y : ℕ) → x ≡ little m b off → y ≡ little n b (off + m) → x + 256 ^ m * y ≡ little (m + n) b off
joined m n b off x y p q = rw (p, q, join m n b off)

-- the sum of a number's bytes by their places
worths : (k : ℕ) (b : List ℕ) → sum_through (λ i. byte_worth i (get_or b i 0)) k ≡ little (suc k) b 0
unfolding little
worths zero b = omega arith
worths (suc k) b =
    let e : suc k + 1 ≡ suc (suc k) = omega arith in
    let one : little 1 b (0 + suc k) ≡ get_or b (suc k) 0 = rw zero-add (omega arith) in
    let j = rw (e, one, mul_comm (256 ^ suc k) (get_or b (suc k) 0)) at (join (suc k) 1 b 0) in
    rw (worths k b) (sym j)

-- the same where the number was read in a list s that is t
module _ (n off : ℕ) (s t : List ℕ) (e : s ≡ t) where
  pub read_in : (z : Answer ℕ) → z ≡ number_at n s off → z ≡ number_at n t off
  read_in z h = rw e at h

  pub step_in : {B : Type 0} (r : Answer ℕ) (x : ℕ) (f : ℕ → Answer B) (y : Answer B) → r ≡ number_at n s off → r ≡ Ok x → y ≡ f x → y ≡ (number_at n t off >>= f)
  step_in r x f y p q h = step r x (number_at n t off) f y (read_in r p) q h

  pub stop_in : {B : Type 0} (r : Answer ℕ) (w : Refusal) (f : ℕ → Answer B) → r ≡ number_at n s off → r ≡ Err w → Err w ≡ (number_at n t off >>= f)
  stop_in r w f p q = stop r w (number_at n t off) f (read_in r p) q

-- the product of two 32-bit numbers
pub wide_product : (a b : ℕ) → a < 2 ^ 32 → b < 2 ^ 32 → a * b < 2 ^ 64
wide_product a b p q = lt_of_le_of_lt (mul-le-mul_left a (omega arith)) (mul-lt-mul_of_pos_right {k = 2 ^ 32} p (lit< tt))

-- n bytes make a number below 256 ^ n
pub small : (n : ℕ) (b : List ℕ) (off : ℕ) → ((i : ℕ) → Fits w8 (get_or b i 0)) → little n b off < 256 ^ n
unfolding little
small zero b off h = lit< tt
small (suc n) b off h = rw pow-suc (omega (arith, h off, small n b (off + 1) h))

-- a number that was read of n bytes fits every width of 8 * n bits and more
pub read_fits : (w : Width) (n : ℕ) (b : List ℕ) (off : ℕ) (r : Answer ℕ) (x : ℕ) → r ≡ number_at n b off → r ≡ Ok x → ((i : ℕ) → Fits w8 (get_or b i 0)) → T (leb (256 ^ n) (2 ^ bits w)) → Fits w x
unfolding number_at if_le
read_fits w n b off r x p q h t = of (leb (off + n) (length b)) (sym (q) ∙ p)
  where
    of : (d : Bool) → Ok x ≡ pick d (Ok (little n b off)) (Err Corrupt) → Fits w x
    of true e =
        let k : x ≡ little n b off = cc in
        Fits-under w x (256 ^ n) (omega (arith, small n b off h)) t
    of false e = let z : ◌≡◌ {A = ℕ} 0 1 = cc in absurd (omega arith)

module _ (b : List ℕ) (s : Span) where
  pub part_none : length b ≤ s.start → [] ≡ part_of b s
  unfolding part_of
  part_none h = rw (drop_of_length-le b h, take-nil)

  pub part_cut : (i n : ℕ) → i ≡ min s.start (length b) → n ≡ min s.len (length b - i) → take n (take (length b - i) (drop i b)) ≡ part_of b s
  unfolding part_of
  part_cut i n p q =
      rw (take_all (length b - i) (drop i b) (simp length-drop (omega arith)))
      (of (cases_lt (length b) s.start) (cases_lt (length b - i) s.len))
    where
      of : (length b < s.start) ⊎ (s.start ≤ length b) → (length b - i < s.len) ⊎ (s.len ≤ length b - i) → take n (drop i b) ≡ take s.len (drop s.start b)
      of (inl h) k = rw (drop_of_length-le b {i = i} (omega arith), drop_of_length-le b {i = s.start} (omega arith)) (simp take-nil)
      of (inr h) (inl k) =
          let e : i ≡ s.start = omega arith in
          rw (take_all n (drop i b) (simp length-drop (omega arith)), e, take_all s.len (drop s.start b) (simp length-drop (omega arith)))
      of (inr h) (inr k) = let e : i ≡ s.start = omega arith in let f : n ≡ s.len = omega arith in rw (e, f)

  pub part_length : s.start + s.len ≤ length b → length (part_of b s) ≡ s.len
  unfolding part_of
  part_length h = simp (length-take, length-drop) (omega arith)

-- a number within a part is a number of the whole
pub part_little : (n : ℕ) (b : List ℕ) (s : Span) (i : ℕ) → i + n ≤ s.len → little n (part_of b s) i ≡ little n b (s.start + i)
unfolding little part_of
part_little zero b s i h = refl
part_little (suc n) b s i h =
    let k : i < s.len = omega arith in
    let m : i + 1 + n ≤ s.len = omega arith in
    let q : s.start + (i + 1) ≡ s.start + i + 1 = omega arith in
    rw (get_or-take s.len (drop s.start b) i 0 k, get_or-drop, part_little n b s (i + 1) m, q)

-- the bytes at off, as a number
pub from_bytes : (k : ℕ) (b c : List ℕ) (off x : ℕ) → c ≡ take (suc k) (drop off b) → x ≡ sum_through (λ i. byte_worth i (get_or c i 0)) k → x ≡ little (suc k) b off
unfolding part_of
from_bytes k b c off x e h =
    h ∙ worths k c ∙ rw e (part_little (suc k) b (record { start = off; len = suc k }) 0 (omega arith) ∙ rw add-zero)

pub part_number : (n : ℕ) (b : List ℕ) (s : Span) (i : ℕ) → s.start + s.len ≤ length b → i + n ≤ s.len → number_at n (part_of b s) i ≡ number_at n b (s.start + i)
unfolding number_at
part_number n b s i h k =
    sym (at_most_lem _ _ _ _ _ (omega (arith, part_length b s h)) (ap Ok (sym (part_little n b s i k))))
    ∙ at_most_lem _ _ _ _ _ (omega arith) refl

-- the bytes before the first zero byte, or all
pub first_zero : (b : List ℕ) → take (position_or_len (λ x. eqb x 0) b) b ≡ up_to_zero b
unfolding up_to_zero if_eq
first_zero [] = refl
first_zero (x ∷ b) = of (eqb x 0) (first_zero b)
  where
    of : (d : Bool) → take (position_or_len (λ x. eqb x 0) b) b ≡ up_to_zero b → take (cond (not d) (1 + position_or_len (λ x. eqb x 0) b) 0) (x ∷ b) ≡ pick d [] (x ∷ up_to_zero b)
    of true h = refl
    of false h = let e : 1 + position_or_len (λ x. eqb x 0) b ≡ suc (position_or_len (λ x. eqb x 0) b) = omega arith in rw (e, ← h)

-- where the first zero byte stands, and where there is none
pub zero_found : (b : List ℕ) (n : ℕ) → cond (ltb (position_or_len (λ x. eqb x 0) b) (length b)) (Some (position_or_len (λ x. eqb x 0) b)) None ≡ Some n → take n b ≡ up_to_zero b
zero_found b n = of (ltb (position_or_len (λ x. eqb x 0) b) (length b))
  where
    of : (d : Bool) → cond d (Some (position_or_len (λ x. eqb x 0) b)) None ≡ Some n → take n b ≡ up_to_zero b
    of true e = let k : position_or_len (λ x. eqb x 0) b ≡ n = cc in rw k at (first_zero b)
    of false e = absurd (cc)

pub zero_missed : (b : List ℕ) → cond (ltb (position_or_len (λ x. eqb x 0) b) (length b)) (Some (position_or_len (λ x. eqb x 0) b)) None ≡ None → b ≡ up_to_zero b
zero_missed b = of (ltb (position_or_len (λ x. eqb x 0) b) (length b)) (ltb-false _ _)
  where
    of : (d : Bool) → (d ≡ false → length b ≤ position_or_len (λ x. eqb x 0) b) → cond d (Some (position_or_len (λ x. eqb x 0) b)) None ≡ None → b ≡ up_to_zero b
    of true h e = absurd (cc)
    of false h e = sym (take_all (position_or_len (λ x. eqb x 0) b) b (h refl)) ∙ first_zero b

-- a name, read in a part of a list y that is k
pub name_part : (x y k : List ℕ) (n : Span) (z : List ℕ) → y ≡ k → x ≡ part_of y n → z ≡ up_to_zero x → z ≡ up_to_zero (part_of k n)
name_part x y k n z e h g = rw (h, e) at g

pub ruleset answers = (step, stop)

pub ruleset within = (read_in, step_in, stop_in)

pub ruleset all = (rules, step, stop, read_fits, tests)
