-- The cursor's loops: a buyer may pass over this file. A step of a part of the tree (`Makes`) is proved to be what `walk`, `leaf_from` and `child` of
-- btree's specs/Inner.antt leave, and the step of the whole tree to begin the run (`Begins`, specs/Left.antt).
use Rattle.std.specs.Prelude.{ℕ, ◌-◌, ◌≡◌, List, get_or, set, replicate}
use Rattle.error.specs.Answer.{Ok}
use Rattle.node.specs.declared.layout.Node.{Node}
use Rattle.btree.specs.Scan.{Run, end, refused, Tail}
use Rattle.btree.specs.Inner.{leaf_from, in_node, each, child}
use Rattle.btree.specs.declared.entries.Search.{Search}
use Rattle.btree.specs.declared.leaf.InLeaf.TheVariants as leaf
use Rattle.cursor.specs.Left.{no_mark, node_on, left}
use Rattle.cursor.specs.declared.path.Mark.{Mark}
use Rattle.cursor.specs.declared.path.Path.{Path}
use Rattle.cursor.specs.declared.steps.Reached.{Reached}
use Rattle.cursor.specs.declared.steps.Reached.TheVariants as reached
use Rattle.cursor.specs.declared.walk.InPart.{InPart}
use Rattle.cursor.specs.declared.walk.InPart.TheVariants as part
use Rattle.cursor.specs.declared.walk.PartStep.{PartStep}

abbrev pub none_left : Path
none_left = record { marks = replicate 33 no_mark }

abbrev pub mark_of : Path → ℕ → Mark
mark_of c level = get_or c.marks level no_mark

abbrev pub with_mark : Path → ℕ → Mark → Path
with_mark c level k = record { marks = set c.marks level k }

-- a node that is found again by its block
abbrev pub Known : List ℕ → Search → ℕ → Node → Type 0
Known b q level m = node_on b q level m.block ≡ Ok m

-- what is left of an index node of a level from its i-th entry on, and above it
abbrev pub onward : List ℕ → Search → ℕ → Node → ℕ → Path → Tail
onward b q level m i c = each (child b q level) b q m (m.nkeys - i) i (left b q c level)

-- what a step within a part of the tree gives, where k follows the part
abbrev pub part_then : List ℕ → Search → InPart → ℕ → ℕ → Run → Run → Run
part_then b q (part.At m) i s r k = leaf_from b q m (m.nkeys - i) i s r
part_then b q part.Passed i s r k = k
part_then b q part.End i s r k = end s
part_then b q (part.No e) i s r k = refused e s

unfoldable pub part_run : List ℕ → Search → PartStep → Tail → Run
part_run b q t k = part_then b q t.found t.from t.nodes (left b q t.path t.level t.nodes) (k t.nodes)

-- the run of a step that k follows; a leaf that is handed out has a record, or ends the scan
pub record Makes (b : List ℕ) (q : Search) (t : PartStep) (k : Tail) (whole : Run) : Type 0 where
  pub run : part_run b q t k ≡ whole
  pub there : (m : Node) → t.found ≡ part.At m → in_node b q m t.from ≡ leaf.Passed → ⊥

-- where all of the tree is passed, the scan ends
abbrev pub in_whole : InPart → Reached
in_whole (part.At m) = reached.Leaf m
in_whole part.Passed = reached.End
in_whole part.End = reached.End
in_whole (part.No e) = reached.No e
