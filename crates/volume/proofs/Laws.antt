-- How opening a volume goes on from its steps.
use Prim.Native.Nat.{ℕ}
use mathlib.Core.Path.{◌≡◌}
use mathlib.Core.List.{List}
use Rattle.error.specs.Answer.{Err, Answer, Ok}
use Rattle.error.specs.declared.Refusal.{Refusal}
use Rattle.obj.specs.declared.reader.Reader.{Reader}
use Rattle.node.specs.Node.{info_of}
use Rattle.node.specs.declared.layout.Node.{Node}
use Rattle.node.specs.declared.layout.Info.{Info}
use Rattle.lookup.specs.declared.counted.Counted.{Counted}
use Rattle.lookup.specs.Counted.{after, from, onto}
use Rattle.lookup.specs.declared.map.Map.{Map}
use Rattle.nx.specs.declared.container.Container.{Container}
use Rattle.nx.specs.declared.volume.VolumeSuperblock.{VolumeSuperblock}
use Rattle.nx.proofs.Laws as nx-laws
use Rattle.volume.specs.Open.{open_from}
use Rattle.volume.specs.Inner.{rooted_of, tree_of, through_map, map_first, tested_of}
use Rattle.volume.specs.declared.Volume.{Volume}

-- the info that was read in a list t that is u
module _ {B : Type 0} (s : ℕ) (t u : List ℕ) (e : t ≡ u) (m : Node) (r : Answer Info) (f : Info → Counted B) (p : r ≡ info_of m t) where
  pub info_got_in : (x : Info) (y : Counted B) → r ≡ Ok x → y ≡ f x → y ≡ from s (info_of m u) f
  info_got_in x y q h = rw (← e, ← p, q) h

  pub info_no_in : (w : Refusal) → r ≡ Err w → after s (Err w) ≡ from s (info_of m u) f
  info_no_in w q = rw (← e, ← p, q)

pub root_count : (image : List ℕ) (r : Reader) (sb : VolumeSuperblock) (m : Map) (root : Node) (count s : ℕ) (z : Counted Volume) → count ≡ s → z ≡ rooted_of image r sb m root count → z ≡ rooted_of image r sb m root s
root_count image r sb m root count s z e h = rw e at h

-- the steps one by one are `Volume::open`
pub opened_from : (image : List ℕ) (r : Reader) (sb : VolumeSuperblock) (xid s : ℕ) (z : Counted Volume) → z ≡ tested_of image r sb xid s → z ≡ open_from image r sb xid s
unfolding open_from tested_of map_first through_map tree_of rooted_of
opened_from image r sb xid s z h = h

module _ {B : Type 0} (r : Counted VolumeSuperblock) (c : Counted VolumeSuperblock) (f : VolumeSuperblock → ℕ → Counted B) (p : r ≡ c) where
  pub volume_got : (sb : VolumeSuperblock) (y : Counted B) → r.answer ≡ Ok sb → y ≡ f sb r.nodes → y ≡ onto c f
  volume_got sb y q k = rw (← p, q) k

  pub volume_no : (e : Refusal) → r.answer ≡ Err e → after r.nodes (Err e) ≡ onto c f
  volume_no e q = rw (← p, q)

module _ {B : Type 0} (r : Counted Container) (c : Counted Container) (f : Container → ℕ → Counted B) (p : r ≡ c) where
  pub container_got : (x : Container) (y : Counted B) → r.answer ≡ Ok x → y ≡ f x r.nodes → y ≡ onto c f
  container_got x y q k = rw (← p, q) k

  pub container_no : (e : Refusal) → r.answer ≡ Err e → after r.nodes (Err e) ≡ onto c f
  container_no e q = rw (← p, q)

pub ruleset all = (nx-laws.all, info_got_in, info_no_in, root_count, opened_from, volume_got, volume_no, container_got, container_no)
