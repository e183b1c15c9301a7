-- What an answer to a yes-or-no question says of the steps before it.
use Prim.Native.Nat.{ℕ}
use mathlib.Core.Path.{◌≡◌, refl}
use mathlib.Core.Bool.{Bool, true, false}
use Rattle.std.specs.Prelude.{Option, None, Some}
use native.Mathlib.Omega.{arith}
use Rattle.error.specs.Answer.{Answer, Ok, Err, pick, if_eq}
use Rattle.error.proofs.Laws.{eq_cases}
use Rattle.checkpoints.specs.Known.{known, ◌>>?◌}

pub nothing : {A B : Type 0} {y : A} → None ≡ Some y → B
nothing e = absurd (let z : ◌≡◌ {A = ℕ} 0 1 = cc in omega arith)

pub same_some : {A : Type 0} {x y : A} → Some x ≡ Some y → x ≡ y
same_some e = cc

pub some_bound : {A B : Type 0} (a : Option A) (f : A → Option B) (y : B) → (a >>? f) ≡ Some y → (x : A) × ((a ≡ Some x) × (f x ≡ Some y))
some_bound (Some x) f y e = (x, (refl, e))
some_bound None f y e = nothing e

pub known_bound : {A B : Type 0} (a : Answer A) (f : A → Option B) (y : B) → (known a >>? f) ≡ Some y → (x : A) × ((a ≡ Ok x) × (f x ≡ Some y))
known_bound (Ok x) f y e = (x, (refl, e))
known_bound (Err w) f y e = nothing e

-- both tests of an answer that is there
pub held : {A : Type 0} (d : Bool) (x : Option A) (y : A) → pick d x None ≡ Some y → (d ≡ true) × (x ≡ Some y)
held true x y e = (refl, e)
held false x y e = nothing e

pub passed : {A : Type 0} (a b : ℕ) (x : Option A) (y : A) → if_eq a b x None ≡ Some y → (a ≡ b) × (x ≡ Some y)
passed a b x y = eq_cases (λ (u : Option _). u ≡ Some y → (a ≡ b) × (x ≡ Some y)) (λ h e. (h, e)) (λ h e. nothing e)
