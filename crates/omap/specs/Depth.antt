-- How many nodes a lookup in a loaded map goes through. Document 01, btree.rs: "at most 33 nodes, root counted".
-- What is stated here is proved in proofs/Depth.antt.
use Rattle.std.specs.Prelude.{ℕ, ◌+◌, ◌-◌, ◌^◌, ◌≤◌, min, ◌≡◌, List, length}
use Rattle.std.specs.Prelude.{Option}
use Rattle.error.specs.Answer.{Ok}
use Rattle.obj.specs.declared.reader.Reader.{Reader}
use Rattle.lookup.specs.Lookup.{path_of}
use Rattle.lookup.specs.Map.{target_for, map_lookup}
use Rattle.lookup.specs.declared.map.Map.{Map}
use Rattle.lookup.specs.declared.map.MapValue.{MapValue}
use Rattle.omap.specs.Load.{map_at}

-- the blocks that an object's lookup goes through, the root's first
abbrev pub object_path : Reader → List ℕ → Map → ℕ → List ℕ
object_path r image m oid = path_of r image m.info (target_for m oid) m.root

-- a lookup that is not refused, in a map that was loaded from any address of any image
pub record Within33 (r : Reader) (image : List ℕ) (m : Map) (oid : ℕ) : Type 0 where
  pub within : length (object_path r image m oid) ≤ 33
  pub count : (s : ℕ) → (map_lookup r image m oid s).nodes ≡ min (s + length (object_path r image m oid)) (2 ^ 64 - 1)

abbrev pub LoadedWithin33 : Type 0
LoadedWithin33 =
    (r : Reader) (image : List ℕ) (paddr xid s : ℕ) (m : Map) → (map_at r image paddr xid s).answer ≡ Ok m →
    (oid n : ℕ) (v : Option MapValue) → (map_lookup r image m oid n).answer ≡ Ok v → Within33 r image m oid
