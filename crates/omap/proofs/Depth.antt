-- A lookup in a loaded map that is not refused goes through at most 33 nodes.
use Prim.Native.Nat.{ℕ, ◌+◌, ◌-◌, ◌^◌, ◌≤◌, min}
use mathlib.Core.Path.{◌≡◌, refl, ap, ◌∙◌}
use mathlib.Core.List.{List}
use Rattle.std.specs.Prelude.{Option}
use lib.ListN.{length}
use native.Mathlib.Omega.{arith}
use Rattle.error.specs.Answer.{Answer, Ok, Err}
use Rattle.error.proofs.Laws.{got_is}
use Rattle.obj.specs.declared.reader.Reader.{Reader}
use Rattle.node.specs.declared.layout.Node.{Node}
use Rattle.lookup.specs.declared.counted.Counted.{Counted}
use Rattle.lookup.specs.Counted.{from}
use Rattle.lookup.specs.Path.{at_once, on, and_then, count_along, counted}
use Rattle.lookup.specs.Read.{node_at}
use Rattle.lookup.specs.Lookup.{look, lookup_le}
use Rattle.lookup.specs.Map.{mapping_of, target_for, look_in, map_lookup}
use Rattle.node.specs.declared.place.Place.{Place}
use Rattle.lookup.specs.declared.map.Map.{Map}
use Rattle.lookup.specs.declared.map.MapValue.{MapValue}
use Rattle.lookup.proofs.Count.{counts_path, told_path}
use Rattle.lookup.proofs.Theorems.{read_level, at_most_33}
use Rattle.omap.specs.Load.{tree_at, layout_of, map_of, map_at}
use Rattle.omap.specs.Depth.{object_path, LoadedWithin33}

-- what a counted answer that was got says of the answer before it
pub from_got : {A B : Type 0} (s : ℕ) (a : Answer A) (f : A → Counted B) (y : B) → (from s a f).answer ≡ Ok y → (x : A) × (a ≡ Ok x) × ((f x).answer ≡ Ok y)
from_got s (Ok x) f y e = (x, refl, e)
from_got s (Err w) f y e = absurd (let z : ◌≡◌ {A = ℕ} 0 1 = cc in omega arith)

-- the root of a loaded map was read, and its number was given
map_parts : (r : Reader) (image : List ℕ) (root : Node) (xid s : ℕ) (m : Map) → (map_of r image root xid s).answer ≡ Ok m → (root ≡ m.root) × (xid ≡ m.xid)
unfolding map_of
map_parts r image root xid s m e =
    let i = from_got s (layout_of r image root) _ m e in
    let k = got_is _ m i.2 in
    (ap (λ (x : Map). x.root) k, ap (λ (x : Map). x.xid) k)

pub map_number : (r : Reader) (image : List ℕ) (paddr xid s : ℕ) (m : Map) → (map_at r image paddr xid s).answer ≡ Ok m → xid ≡ m.xid
unfolding map_at
map_number r image paddr xid s m e =
    let a = from_got s (tree_at r image paddr) _ m e in
    let c = from_got s (node_at r image a.0) _ m a.2 in
    (map_parts r image c.0 xid _ m c.2).1

root_level : (r : Reader) (image : List ℕ) (paddr xid s : ℕ) (m : Map) → (map_at r image paddr xid s).answer ≡ Ok m → m.root.level ≤ 32
unfolding map_at
root_level r image paddr xid s m e =
    let a = from_got s (tree_at r image paddr) _ m e in
    let c = from_got s (node_at r image a.0) _ m a.2 in
    of c.0 (read_level r image a.0 c.0 c.1) (map_parts r image c.0 xid _ m c.2).0
  where
    of : (root : Node) → root.level ≤ 32 → root ≡ m.root → m.root.level ≤ 32
    of root h k = omega (arith, ap (λ (n : Node). n.level) k)

look_got : (r : Reader) (image : List ℕ) (m : Map) (oid n : ℕ) (v : Option MapValue) → (map_lookup r image m oid n).answer ≡ Ok v →
    (o : Option Place) × ((look r image m.info (target_for m oid) m.root).answer ≡ Ok o)
unfolding map_lookup look_in counted and_then
look_got r image m oid n v e = of (look r image m.info (target_for m oid) m.root).answer refl e
  where
    of : (a : Answer (Option Place)) → (look r image m.info (target_for m oid) m.root).answer ≡ a → (on a (λ o. at_once (mapping_of r image oid o))).answer ≡ Ok v →
        (o : Option Place) × ((look r image m.info (target_for m oid) m.root).answer ≡ Ok o)
    of (Ok o) h k = (o, h)
    of (Err w) h k = absurd (let z : ◌≡◌ {A = ℕ} 0 1 = cc in omega arith)

object_count : (r : Reader) (image : List ℕ) (m : Map) (oid s : ℕ) → (map_lookup r image m oid s).nodes ≡ min (s + length (object_path r image m oid)) (2 ^ 64 - 1)
unfolding map_lookup look_in counted lookup_le
object_count r image m oid s =
    ap (count_along s) (told_path (look r image m.info (target_for m oid) m.root) (mapping_of r image oid))
    ∙ (counts_path r image m.info (target_for m oid) m.root).count s

pub loaded_within_33 : LoadedWithin33
loaded_within_33 r image paddr xid s m e oid n v h =
    let o = look_got r image m oid n v h in
    record {
      within = at_most_33 r image m.info (target_for m oid) m.root o.0 (root_level r image paddr xid s m e) o.1;
      count = λ k. object_count r image m oid k;
    }
