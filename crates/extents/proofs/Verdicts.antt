-- The laws of the tests backwards, from an answer that is got, and of verdicts one after the other.
use Prim.Native.Nat.{ℕ, ◌≤◌, ◌<◌}
use mathlib.Core.Path.{◌≡◌, refl}
use mathlib.Core.Bool.{Bool, true, false}
use mathlib.Core.Logic.{◌⊎◌, inl, inr}
use lib.Dec.{leb}
use native.Mathlib.Omega.{arith}
use borrow.Author.Tests.{le-leb, lt-leb, eq-eqb, ne_eqb, leb-true, leb-false}
use Rattle.error.specs.Answer.{Answer, Ok, Err, ◌>>=◌, if_le, if_eq, pick}
use Rattle.error.specs.declared.Refusal.{Refusal}
use Rattle.extents.specs.Verdict.{Verdict, fine, ◌>>◌, at_most}

-- what is left of an answer once a test's outcome is known
module _ {A : Type 0} (a b : ℕ) (x y z : A) where
  pub was_most : a ≤ b → if_le a b x y ≡ z → x ≡ z
  unfolding if_le
  was_most h e = rw (le-leb a b h) at e

  pub was_above : b < a → if_le a b x y ≡ z → y ≡ z
  unfolding if_le
  was_above h e = rw (lt-leb a b h) at e

  pub was_same : a ≡ b → if_eq a b x y ≡ z → x ≡ z
  unfolding if_eq
  was_same h e = rw (eq-eqb a b h) at e

  pub was_other : (a ≡ b → ⊥) → if_eq a b x y ≡ z → y ≡ z
  unfolding if_eq
  was_other h e = rw (ne_eqb a b h) at e

pub le_or_gt : (a b : ℕ) → (a ≤ b) ⊎ (b < a)
le_or_gt a b = go (leb a b) refl
  where
    go : (t : Bool) → leb a b ≡ t → (a ≤ b) ⊎ (b < a)
    go true e = inl (leb-true a b e)
    go false e = inr (leb-false a b e)

-- a test that was passed
pub passed : {A : Type 0} (a b : ℕ) (w : Refusal) (x : Answer A) (y : A) → at_most a b w x ≡ Ok y → (a ≤ b) × (x ≡ Ok y)
unfolding if_le
passed a b w x y e = go (leb a b) refl e
  where
    go : (t : Bool) → leb a b ≡ t → pick t x (Err w) ≡ Ok y → (a ≤ b) × (x ≡ Ok y)
    go true q e = (leb-true a b q, e)
    go false q e = absurd (let z : ◌≡◌ {A = ℕ} 0 1 = cc in omega arith)

pub went : {A : Type 0} (v : Verdict) (x : Answer A) (y : A) → (v >> x) ≡ Ok y → (v ≡ fine) × (x ≡ Ok y)
went (Ok tt) x y e = (refl, e)
went (Err w) x y e = absurd (let z : ◌≡◌ {A = ℕ} 0 1 = cc in omega arith)

-- verdicts one after the other
pub assoc : {A : Type 0} (v w : Verdict) (x : Answer A) → ((v >> w) >> x) ≡ (v >> (w >> x))
assoc (Ok a) w x = refl
assoc (Err e) w x = refl

pub after_bind : {A B : Type 0} (v : Verdict) (x : Answer A) (f : A → Answer B) → ((v >> x) >>= f) ≡ (v >> (x >>= f))
after_bind (Ok a) x f = refl
after_bind (Err e) x f = refl
