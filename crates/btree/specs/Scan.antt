-- The records of one id and kind in a tree, in order. Document 01, btree.rs, `scan`, and "What must change shape".
use Rattle.std.specs.Prelude.{ℕ, zero, suc, ◌+◌, List, [], ◌∷◌}
use Rattle.std.specs.Prelude.{Option, None, Some}
use Rattle.error.specs.Answer.{Answer, Ok, Err, if_le, if_eq}
use Rattle.error.specs.declared.Refusal.{Refusal}
use Rattle.error.specs.declared.Refusal.TheVariants.{Corrupt}
use Rattle.arith.specs.Checked.{ticked}
use Rattle.node.specs.Node.{leaf_bit}
use Rattle.node.specs.declared.layout.Node.{Node}
use Rattle.lookup.specs.declared.counted.Counted.{Counted}
use Rattle.lookup.specs.Counted.{after}
use Rattle.lookup.specs.Path.{Through}
use Rattle.btree.specs.Entries.{Leaf, pass_over, end_scan, record_at, item_at, Act, stop, skip, into, turn_at}
use Rattle.btree.specs.declared.entries.Search.{Search}
use Rattle.node.specs.declared.place.Place.{Place}

-- what a part of a tree gives: the blocks of the nodes that the scan goes through in it and the records, in order;
-- then the scan goes on past the part, or has ended or been refused in it
pub data Part : Type 0 where
  through : ℕ → Part → Part
  gives : Place → Part → Part
  passed : Part
  ended : Part
  failed : Refusal → Part

infixr 20 ◌then◌
-- one part after the other
unfoldable pub ◌then◌ : Part → Part → Part
through p x then y = through p (x then y)
gives p x then y = gives p (x then y)
passed then y = y
ended then y = ended
failed e then y = failed e

-- nodes gone through, then a part
unfoldable pub along : List ℕ → Part → Part
along [] x = x
along (p ∷ ps) x = through p (along ps x)

-- an entry of a leaf
unfoldable pub item_part : Answer Leaf → Part
item_part (Ok pass_over) = passed
item_part (Ok end_scan) = ended
item_part (Ok (record_at p)) = gives p passed
item_part (Err e) = failed e

-- n entries of a leaf from the i-th on (btree.rs, `scan_node`)
unfoldable pub leaf_part : List ℕ → Search → Node → ℕ → ℕ → Part
leaf_part b q m zero i = passed
leaf_part b q m (suc n) i = item_part (item_at b q m i) then leaf_part b q m n (i + 1)

-- an entry of an index node, with f of its child
unfoldable pub act_part : (Node → Part) → Answer Act → Part
act_part f (Ok stop) = ended
act_part f (Ok skip) = passed
act_part f (Ok (into m)) = f m
act_part f (Err e) = failed e

unfoldable pub turn_part : (Node → Part) → Through Act → Part
turn_part f t = along t.path (act_part f t.answer)

-- n entries of an index node from the i-th on (btree.rs, `scan_node`)
unfoldable pub index_part : (Node → Part) → List ℕ → Search → Node → ℕ → ℕ → Part
index_part f b q m zero i = passed
index_part f b q m (suc n) i = turn_part f (turn_at b q m i) then index_part f b q m n (i + 1)

-- a node; a leaf is told by its flag, at any level (btree.rs, `is_leaf`)
unfoldable pub node_part : (Node → Part) → List ℕ → Search → Node → Part
node_part f b q m = if_eq (leaf_bit m.flags) 1 (leaf_part b q m m.nkeys 0) (index_part f b q m m.nkeys 0)

-- a child of a node of a level. Document 01, btree.rs: "A child whose level + 1 differs from its parent's is 2"
unfoldable pub child_part : List ℕ → Search → ℕ → Node → Part
child_part b q zero m = failed Corrupt
child_part b q (suc n) m = if_eq m.level n (node_part (child_part b q n) b q m) (failed Corrupt)

-- the tree below the root, and the root.
-- Document 01, btree.rs: "A level over 32 .. is 2", so no node that was read is such a root
unfoldable pub tree_part : List ℕ → Search → Part
tree_part b q = if_le q.root.level 32 (through q.root.block (node_part (child_part b q q.root.level) b q q.root)) (failed Corrupt)

-- the places of the records, each with the count of nodes gone through by then, and how it ended
pub data Run : Type 0 where
  more : Place → ℕ → Run → Run
  end : ℕ → Run
  refused : Refusal → ℕ → Run

-- what follows a part, by the count of nodes gone through so far
abbrev pub Tail : Type 0
Tail = ℕ → Run

-- a part, counted, where k follows
unfoldable pub counted_part : Part → Tail → Tail
counted_part (through p x) k s = counted_part x k (ticked s)
counted_part (gives p x) k s = more p s (counted_part x k s)
counted_part passed k s = k s
counted_part ended k s = end s
counted_part (failed e) k s = refused e s

-- all records below the root, s nodes having been gone through before
unfoldable pub scan_of : List ℕ → Search → ℕ → Run
scan_of b q s = counted_part (tree_part b q) end s

-- a run's k-th record, or how the run ended before it (document 01, "What must change shape": "how many records to pass")
unfoldable pub nth : ℕ → Run → Counted (Option Place)
nth zero (more p s r) = after s (Ok (Some p))
nth (suc n) (more p s r) = nth n r
nth zero (end s) = after s (Ok None)
nth (suc n) (end s) = after s (Ok None)
nth zero (refused e s) = after s (Err e)
nth (suc n) (refused e s) = after s (Err e)

-- the same run as a list: its records in order, the nodes gone through by each, and how it ended
unfoldable pub places : Run → List Place
places (more p s r) = p ∷ places r
places (end s) = []
places (refused e s) = []

unfoldable pub counts : Run → List ℕ
counts (more p s r) = s ∷ counts r
counts (end s) = []
counts (refused e s) = []

unfoldable pub ending : Run → Counted (Option Place)
ending (more p s r) = ending r
ending (end s) = after s (Ok None)
ending (refused e s) = after s (Err e)
