-- How a counted answer goes on from an answer after s nodes; and a map's tree and layout, read in a list s that is u.
use Prim.Native.Nat.{ℕ}
use mathlib.Core.Path.{◌≡◌}
use mathlib.Core.List.{List}
use Rattle.error.specs.Answer.{Answer, Err, ◌>>=◌, Ok}
use Rattle.error.specs.declared.Refusal.{Refusal}
use Rattle.node.specs.Node.{info_of}
use Rattle.node.specs.declared.layout.Node.{Node}
use Rattle.node.specs.declared.layout.Info.{Info}
use Rattle.lookup.specs.declared.counted.Counted.{Counted}
use Rattle.lookup.specs.Counted.{after, from}
use Rattle.lookup.proofs.Laws as lookup-laws
use Rattle.omap.specs.Load.{tree_in, map_of}
use Rattle.lookup.specs.declared.map.Map.{Map}
use Rattle.obj.specs.declared.reader.Reader.{Reader}

module _ {B : Type 0} (s : ℕ) (r : Answer ℕ) (a : Answer ℕ) (f : ℕ → Counted B) (p : r ≡ a) where
  pub from_number : (x : ℕ) (y : Counted B) → r ≡ Ok x → y ≡ f x → y ≡ from s a f
  from_number x y q h = rw (← p, q) h

  pub from_number_no : (e : Refusal) → r ≡ Err e → after s (Err e) ≡ from s a f
  from_number_no e q = rw (← p, q)

module _ {B : Type 0} (s : ℕ) (r : Answer Node) (a : Answer Node) (f : Node → Counted B) (p : r ≡ a) where
  pub from_node : (x : Node) (y : Counted B) → r ≡ Ok x → y ≡ f x → y ≡ from s a f
  from_node x y q h = rw (← p, q) h

  pub from_node_no : (e : Refusal) → r ≡ Err e → after s (Err e) ≡ from s a f
  from_node_no e q = rw (← p, q)

module _ {B : Type 0} (s : ℕ) (r : Answer Info) (a : Answer Info) (f : Info → Counted B) (p : r ≡ a) where
  pub from_info : (x : Info) (y : Counted B) → r ≡ Ok x → y ≡ f x → y ≡ from s a f
  from_info x y q h = rw (← p, q) h

  pub from_info_no : (e : Refusal) → r ≡ Err e → after s (Err e) ≡ from s a f
  from_info_no e q = rw (← p, q)

module _ (s u : List ℕ) (e : s ≡ u) where
  pub tree_in_part : (z : Answer ℕ) → z ≡ tree_in s → z ≡ tree_in u
  tree_in_part z h = rw e at h

  module _ {B : Type 0} (m : Node) (r : Answer Info) (f : Info → Answer B) (p : r ≡ info_of m s) where
    pub info_step_in : (x : Info) (y : Answer B) → r ≡ Ok x → y ≡ f x → y ≡ (info_of m u >>= f)
    info_step_in x y q h = rw (← e, ← p, q) h

    pub info_stop_in : (w : Refusal) → r ≡ Err w → Err w ≡ (info_of m u >>= f)
    info_stop_in w q = rw (← e, ← p, q)

pub map_count : (r : Reader) (image : List ℕ) (root : Node) (xid count s : ℕ) (z : Counted Map) → count ≡ s → z ≡ map_of r image root xid count → z ≡ map_of r image root xid s
map_count r image root xid count s z e h = rw e at h

pub ruleset counted = (from_number, from_number_no, from_node, from_node_no, from_info, from_info_no)

pub ruleset all = (lookup-laws.all, counted, map_count)

pub ruleset parts = (lookup-laws.parts, tree_in_part, info_step_in, info_stop_in)
