-- How a caller's answer goes on from a block size.
use mathlib.Core.Path.{◌≡◌}
use mathlib.Core.Bool.{false}
use mathlib.Core.List.{List}
use Prim.Native.Nat.{ℕ}
use Rattle.error.specs.Answer.{Answer, Err, ◌>>=◌, Ok}
use Rattle.error.specs.declared.Refusal.{Refusal}
use lib.Dec.{eqb}
use Rattle.error.proofs.Laws.{by}
use Rattle.byte_fields.specs.Number.{number_at}
use Rattle.byte_fields.proofs.Laws.{within}
use Rattle.byte_fields.proofs.Laws as bytes_laws
use Rattle.geometry.specs.BlockZero.{has_magic, size_in, geometry_in}
use Rattle.geometry.specs.declared.Geometry.{Geometry}

module _ {B : Type 0} (r : Answer ℕ) (a : Answer ℕ) (f : ℕ → Answer B) (p : r ≡ a) where
  pub size_step : (x : ℕ) (y : Answer B) → r ≡ Ok x → y ≡ f x → y ≡ (a >>= f)
  size_step x y q h = rw (← p, q) h

  pub size_stop : (e : Refusal) → r ≡ Err e → Err e ≡ (a >>= f)
  size_stop e q = rw (← p, q)

-- whether a number that was read is the magic
module _ (r : Answer ℕ) (b : List ℕ) (p : r ≡ number_at 4 b 32) where
  pub magic_told : (x : ℕ) → r ≡ Ok x → eqb x 0x4253584E ≡ has_magic b
  unfolding has_magic
  magic_told x q = rw (← p, q)

  pub magic_not : (e : Refusal) → r ≡ Err e → false ≡ has_magic b
  unfolding has_magic
  magic_not e q = rw (← p, q)

-- what was read in a list s that is u
module _ (s u : List ℕ) (e : s ≡ u) where
  pub size_in_part : (z : Answer ℕ) → z ≡ size_in s → z ≡ size_in u
  size_in_part z h = rw e at h

  pub geometry_in_part : (size : ℕ) (z : Answer Geometry) → z ≡ geometry_in s size → z ≡ geometry_in u size
  geometry_in_part size z h = rw e at h

pub ruleset all = (bytes_laws.all, by, size_step, size_stop, magic_told, magic_not)

pub ruleset parts = (within, size_in_part, geometry_in_part)
