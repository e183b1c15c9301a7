-- How an answer to a yes-or-no question goes on from what is read.
use mathlib.Core.Path.{◌≡◌}
use mathlib.Core.Bool.{Bool}
use mathlib.Core.List.{List}
use Rattle.std.specs.Prelude.{Option}
use Prim.Native.Nat.{ℕ}
use Rattle.error.specs.Answer.{Answer, Ok, Err, ◌>>=◌}
use Rattle.error.specs.declared.Refusal.{Refusal}
use Rattle.error.specs.declared.Refusal.TheVariants.{Corrupt}
use Rattle.error.proofs.Laws.{by}
use Rattle.byte_fields.specs.declared.Span.{Span}
use Rattle.byte_fields.proofs.Laws.{within}
use Rattle.obj.specs.declared.header.ObjHeader.{ObjHeader}
use Rattle.byte_fields.proofs.Laws as bytes_laws
use Rattle.checkpoints.specs.Known.{known, ◌>>?◌}
use Rattle.checkpoints.specs.Maps.{checkpoint_map_in}
use Rattle.checkpoints.specs.Checkpoint.{candidate_of, or_corrupt}
use Rattle.checkpoints.specs.declared.superblock.Descriptors.{Descriptors}
use Rattle.checkpoints.specs.declared.superblock.Superblock.{Superblock}
use Rattle.std.specs.Prelude.{None, Some}

module _ {B : Type 0} (r : Answer ℕ) (a : Answer ℕ) (f : ℕ → Option B) (p : r ≡ a) where
  pub number_known : (x : ℕ) (y : Option B) → r ≡ Ok x → y ≡ f x → y ≡ (known a >>? f)
  number_known x y q h = rw (← p, q) h

  pub number_none : (e : Refusal) → r ≡ Err e → None ≡ (known a >>? f)
  number_none e q = rw (← p, q)

module _ {B : Type 0} (r : Answer Span) (a : Answer Span) (f : Span → Option B) (p : r ≡ a) where
  pub span_known : (x : Span) (y : Option B) → r ≡ Ok x → y ≡ f x → y ≡ (known a >>? f)
  span_known x y q h = rw (← p, q) h

  pub span_none : (e : Refusal) → r ≡ Err e → None ≡ (known a >>? f)
  span_none e q = rw (← p, q)

module _ {B : Type 0} (r : Answer ObjHeader) (a : Answer ObjHeader) (f : ObjHeader → Option B) (p : r ≡ a) where
  pub header_known : (x : ObjHeader) (y : Option B) → r ≡ Ok x → y ≡ f x → y ≡ (known a >>? f)
  header_known x y q h = rw (← p, q) h

  pub header_none : (e : Refusal) → r ≡ Err e → None ≡ (known a >>? f)
  header_none e q = rw (← p, q)

module _ {B : Type 0} (r : Option Descriptors) (a : Option Descriptors) (f : Descriptors → Option B) (p : r ≡ a) where
  pub described_some : (x : Descriptors) (y : Option B) → r ≡ Some x → y ≡ f x → y ≡ (a >>? f)
  described_some x y q h = rw (← p, q) h

  pub described_none : r ≡ None → None ≡ (a >>? f)
  described_none q = rw (← p, q)

-- what the ring gives as an answer
module _ (r : Option Superblock) (a : Option Superblock) (p : r ≡ a) where
  pub found_got : (x : Superblock) → r ≡ Some x → Ok x ≡ or_corrupt a
  found_got x q = rw (← p, q)

  pub found_no : r ≡ None → Err Corrupt ≡ or_corrupt a
  found_no q = rw (← p, q)

module _ {B : Type 0} (r : Answer Superblock) (a : Answer Superblock) (f : Superblock → Answer B) (p : r ≡ a) where
  pub super_step : (x : Superblock) (y : Answer B) → r ≡ Ok x → y ≡ f x → y ≡ (a >>= f)
  super_step x y q h = rw (← p, q) h

  pub super_stop : (e : Refusal) → r ≡ Err e → Err e ≡ (a >>= f)
  super_stop e q = rw (← p, q)

-- what was read in a list s that is u
module _ (s u : List ℕ) (e : s ≡ u) where
  pub map_in_part : (xid : ℕ) (z : Option Bool) → z ≡ checkpoint_map_in s xid → z ≡ checkpoint_map_in u xid
  map_in_part xid z h = rw e at h

  module _ {B : Type 0} (place : Span) (r : Option Superblock) (f : Superblock → Option B) (p : r ≡ candidate_of s place) where
    pub candidate_step_in : (x : Superblock) (y : Option B) → r ≡ Some x → y ≡ f x → y ≡ (candidate_of u place >>? f)
    candidate_step_in x y q h = rw (← e, ← p, q) h

    pub candidate_stop_in : r ≡ None → None ≡ (candidate_of u place >>? f)
    candidate_stop_in q = rw (← e, ← p, q)

pub ruleset all = (bytes_laws.all, by, number_known, number_none, span_known, span_none, header_known, header_none, described_some, described_none, found_got, found_no)

pub ruleset parts = (within, map_in_part, candidate_step_in, candidate_stop_in)
