-- The walk over all entries of a tree, leaf after leaf, and well-formed trees. Document 02, request 14.
use Rattle.std.specs.Prelude.{ℕ, zero, suc, ◌+◌, ◌≡◌, List, [], ◌∷◌, ◌++◌}
use Rattle.std.specs.Prelude.{Option, None, Some}
use Rattle.error.specs.Answer.{Answer, Ok, Err, ◌>>=◌, pick, if_eq}
use Rattle.error.specs.declared.Refusal.TheVariants.{Corrupt}
use Rattle.byte_fields.specs.Part.{part_of}
use Rattle.obj.specs.Block.{block_of}
use Rattle.obj.specs.declared.reader.Reader.{Reader}
use Rattle.node.specs.Node.{leaf_bit}
use Rattle.node.specs.Entry.{key_value_at, child_at}
use Rattle.node.specs.Place.{place_of}
use Rattle.node.specs.declared.layout.Node.{Node}
use Rattle.node.specs.declared.layout.Info.{Info}
use Rattle.lookup.specs.declared.descent.Target.{Target}
use Rattle.node.specs.declared.place.Place.{Place}
use Rattle.lookup.specs.declared.map.Map.{Map}
use Rattle.lookup.specs.declared.map.MapValue.{MapValue}
use Rattle.lookup.specs.Read.{node_at}
use Rattle.lookup.specs.Map.{target_for, mapping_of}
use Rattle.lookup.specs.Key.{key_in, key_at, target_key, IsAbove, above?, is_yes}

-- an entry of a leaf: the two numbers that its key begins with, and where it lies
pub record Item : Type 0 where
  pub key : ℕ × ℕ
  pub hit : Place

-- a tree, read whole: a leaf's entries; of an index node each entry's key and child
mutual
  pub data Tree : Type 0 where
    leaf : List Item → Tree
    index : Branches → Tree

  pub data Branches : Type 0 where
    bare : Branches
    branch : ℕ × ℕ → Tree → Branches → Branches

module _ (r : Reader) (b : List ℕ) (info : Info) where
  -- the i-th entry of a leaf, "those without a value too"
  unfoldable pub item_at : Node → ℕ → Answer Item
  item_at m i =
      key_value_at (block_of r b m.block) m info i >>= λ e.
      key_in (part_of (block_of r b m.block) e.key) >>= λ k.
      Ok (record { key = k; hit = place_of m.block e })

  -- n entries of a leaf from the i-th on
  unfoldable pub items_from : Node → ℕ → ℕ → Answer (List Item)
  items_from m zero i = Ok []
  items_from m (suc n) i = item_at m i >>= λ x. items_from m n (i + 1) >>= λ xs. Ok (x ∷ xs)

  -- the child of an index node's i-th entry
  unfoldable pub child_node : Node → ℕ → Answer Node
  child_node m i = child_at (block_of r b m.block) m info i >>= λ p. node_at r b p

  -- n entries of an index node from the i-th on, with f at each child
  unfoldable pub branches_from : (Node → Answer Tree) → Node → ℕ → ℕ → Answer Branches
  branches_from f m zero i = Ok bare
  branches_from f m (suc n) i =
      key_at (block_of r b m.block) m info i >>= λ k.
      child_node m i >>= λ c.
      f c >>= λ t.
      branches_from f m n (i + 1) >>= λ bs.
      Ok (branch k t bs)

  -- a leaf is told by its flag, at any level
  unfoldable pub node_tree : (Node → Answer Tree) → Node → Answer Tree
  node_tree f m =
      if_eq (leaf_bit m.flags) 1
      (items_from m m.nkeys 0 >>= λ xs. Ok (leaf xs))
      (branches_from f m m.nkeys 0 >>= λ bs. Ok (index bs))

  -- a child of a node of a level: "A child whose level + 1 differs from its parent's is 2"
  unfoldable pub child_tree : ℕ → Node → Answer Tree
  child_tree zero c = Err Corrupt
  child_tree (suc n) c = if_eq c.level n (node_tree (child_tree n) c) (Err Corrupt)

  -- "every node and entry of the tree reads without refusal": this is got
  unfoldable pub tree_at : Node → Answer Tree
  tree_at root = node_tree (child_tree root.level) root

-- "all entries of a map, read leaf after leaf"
abbrev mutual
  pub items : Tree → List Item
  items (leaf xs) = xs
  items (index bs) = items_of bs

  pub items_of : Branches → List Item
  items_of bare = []
  items_of (branch k t bs) = items t ++ items_of bs

-- "ascend strictly": each key is above the one before it
abbrev pub Rises : ℕ × ℕ → List Item → Type 0
Rises k [] = Unit {0}
Rises k (x ∷ xs) = IsAbove x.key k × Rises x.key xs

abbrev pub Ascends : List Item → Type 0
Ascends [] = Unit {0}
Ascends (x ∷ xs) = Rises x.key xs

-- a node whose first key is k
abbrev pub FirstItem : ℕ × ℕ → List Item → Type 0
FirstItem k [] = ⊥
FirstItem k (x ∷ xs) = x.key ≡ k

abbrev pub FirstBranch : ℕ × ℕ → Branches → Type 0
FirstBranch k bare = ⊥
FirstBranch k (branch l t bs) = l ≡ k

abbrev pub FirstIs : ℕ × ℕ → Tree → Type 0
FirstIs k (leaf xs) = FirstItem k xs
FirstIs k (index bs) = FirstBranch k bs

-- "each index entry has a child whose first key equals its own"
abbrev mutual
  pub Firsts : Tree → Type 0
  Firsts (leaf xs) = Unit {0}
  Firsts (index bs) = FirstsOf bs

  pub FirstsOf : Branches → Type 0
  FirstsOf bare = Unit {0}
  FirstsOf (branch k t bs) = FirstIs k t × Firsts t × FirstsOf bs

pub record WellFormed (r : Reader) (b : List ℕ) (info : Info) (root : Node) : Type 0 where
  pub tree : Tree
  pub reads : tree_at r b info root ≡ Ok tree
  pub rising : Ascends (items tree)
  pub firsts : Firsts tree

-- a walk over entries "that keeps the last one not above the target"
unfoldable pub last_in : Target → Option Place → List Item → Option Place
last_in t kept [] = kept
last_in t kept (x ∷ xs) = last_in t (pick (is_yes (above? x.key (target_key t))) kept (Some x.hit)) xs

-- the slow lookup: over all entries of the tree
unfoldable pub walk_le : Reader → List ℕ → Info → Target → Node → Answer (Option Place)
walk_le r b info t root = tree_at r b info root >>= λ tree. Ok (last_in t None (items tree))

-- what an object map says of an object by that walk
abbrev pub map_slow : Reader → List ℕ → Map → ℕ → Answer (Option MapValue)
map_slow r b m oid = walk_le r b m.info (target_for m oid) m.root >>= mapping_of r b oid
