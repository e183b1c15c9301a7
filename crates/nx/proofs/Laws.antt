-- How a caller's answer goes on from what opening reads.
use mathlib.Core.Path.{◌≡◌}
use mathlib.Core.List.{List}
use Prim.Native.Nat.{ℕ}
use Rattle.error.specs.Answer.{Answer, Err, Ok}
use Rattle.error.specs.declared.Refusal.{Refusal}
use Rattle.error.proofs.Laws.{by}
use Rattle.lookup.specs.declared.counted.Counted.{Counted}
use Rattle.lookup.specs.Counted.{after, from, onto}
use Rattle.lookup.specs.declared.map.Map.{Map}
use Rattle.omap.proofs.Laws as omap-laws
use Rattle.geometry.specs.declared.Geometry.{Geometry}
use Rattle.checkpoints.specs.declared.superblock.Superblock.{Superblock}
use Rattle.checkpoints.proofs.Laws.{super_step, super_stop}
use Rattle.nx.specs.Volume.{volume_in}
use Rattle.nx.specs.declared.volume.VolumeSuperblock.{VolumeSuperblock}

module _ {B : Type 0} (r : Answer Geometry) (a : Answer Geometry) (p : r ≡ a) where
  pub from_measured : (s : ℕ) (f : Geometry → Counted B) (x : Geometry) (y : Counted B) → r ≡ Ok x → y ≡ f x → y ≡ from s a f
  from_measured s f x y q h = rw (← p, q) h

  pub from_measured_no : (s : ℕ) (f : Geometry → Counted B) (e : Refusal) → r ≡ Err e → after s (Err e) ≡ from s a f
  from_measured_no s f e q = rw (← p, q)

module _ {B : Type 0} (s : ℕ) (r : Answer Superblock) (a : Answer Superblock) (f : Superblock → Counted B) (p : r ≡ a) where
  pub from_super : (x : Superblock) (y : Counted B) → r ≡ Ok x → y ≡ f x → y ≡ from s a f
  from_super x y q h = rw (← p, q) h

  pub from_super_no : (e : Refusal) → r ≡ Err e → after s (Err e) ≡ from s a f
  from_super_no e q = rw (← p, q)

module _ {B : Type 0} (r : Counted Map) (c : Counted Map) (f : Map → ℕ → Counted B) (p : r ≡ c) where
  pub loaded_got : (m : Map) (y : Counted B) → r.answer ≡ Ok m → y ≡ f m r.nodes → y ≡ onto c f
  loaded_got m y q k = rw (← p, q) k

  pub loaded_no : (e : Refusal) → r.answer ≡ Err e → after r.nodes (Err e) ≡ onto c f
  loaded_no e q = rw (← p, q)

-- what was read in a list s that is u
module _ (s u : List ℕ) (e : s ≡ u) where
  pub volume_in_part : (block : ℕ) (z : Answer VolumeSuperblock) → z ≡ volume_in s block → z ≡ volume_in u block
  volume_in_part block z h = rw e at h

pub ruleset all = (omap-laws.all, by, super_step, super_stop, from_measured, from_measured_no, from_super, from_super_no, loaded_got, loaded_no)

pub ruleset parts = (omap-laws.parts, volume_in_part)
