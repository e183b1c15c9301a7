-- How many nodes a lookup goes through. Document 01, btree.rs: "Its answer counts the nodes it went through"; the buyer's note: "A node count must be the number on the defined path".
-- The path is said by rules, which count nothing; what is stated here is proved in proofs/Count.antt.
use Rattle.std.specs.Prelude.{ℕ, ◌+◌, ◌-◌, ◌^◌, min, ◌≡◌, List, [], ◌∷◌, length}
use Rattle.error.specs.Answer.{Ok}
use Rattle.obj.specs.declared.reader.Reader.{Reader}
use Rattle.node.specs.declared.layout.Node.{Node}
use Rattle.node.specs.declared.layout.Info.{Info}
use Rattle.lookup.specs.declared.descent.Target.{Target}
use Rattle.lookup.specs.declared.map.Resolve.{Resolve}
use Rattle.lookup.specs.declared.map.Resolve.TheVariants.{Identity, Mapped}
use Rattle.lookup.specs.Lookup.{into, step_at, path_of, lookup_le}
use Rattle.lookup.specs.Map.{target_for, resolve}

-- an index node leads to the child of the last entry that is not above the target, its block having passed as a node
abbrev pub LeadsTo : Reader → List ℕ → Info → Target → Node → Node → Type 0
LeadsTo r b info t m c = step_at r b info t m ≡ Ok (into c)

-- the blocks that a lookup goes through from a node on
pub data Goes (r : Reader) (b : List ℕ) (info : Info) (t : Target) : Node → List ℕ → Type 0 where
  -- the node leads to no child: the lookup ends, answered or refused
  stops : {m : Node} → ((c : Node) → LeadsTo r b info t m c → ⊥) → Goes r b info t m (m.block ∷ [])
  -- "A child whose level + 1 differs from its parent's is 2": the lookup is refused at the child
  off : {m c : Node} → LeadsTo r b info t m c → (c.level + 1 ≡ m.level → ⊥) → Goes r b info t m (m.block ∷ c.block ∷ [])
  -- any other child goes on
  down : {m c : Node} {ps : List ℕ} → LeadsTo r b info t m c → c.level + 1 ≡ m.level → Goes r b info t c ps → Goes r b info t m (m.block ∷ ps)

-- there is such a path, and no other: the count goes up by its length, the root counted, and stays at 2^64 − 1
pub record CountsPath (r : Reader) (b : List ℕ) (info : Info) (t : Target) (root : Node) : Type 0 where
  pub there : Goes r b info t root (path_of r b info t root)
  pub only : (ps : List ℕ) → Goes r b info t root ps → ps ≡ path_of r b info t root
  pub count : (s : ℕ) → (lookup_le r b info t root s).nodes ≡ min (s + length (path_of r b info t root)) (2 ^ 64 - 1)

-- the blocks gone through for the block of a child that a tree names: none where it is named by its address, else those of a lookup in the map
abbrev pub name_path : Reader → List ℕ → Resolve → ℕ → List ℕ
name_path r b Identity child = []
name_path r b (Mapped m) child = path_of r b m.info (target_for m child) m.root

abbrev pub ResolvesBy : Reader → List ℕ → Resolve → ℕ → Type 0
ResolvesBy r b x child = (resolve r b x child).path ≡ name_path r b x child
