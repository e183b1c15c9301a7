-- What is left of a scan from an entry of a leaf on: the leaf, and above it for each level a node and the entry at which it goes on.
-- Document 01, btree.rs, `scan`. A reader of a caller needs no more of it than this: `first` begins the run that is the whole scan, `next` the
-- one that is left behind a leaf.
use Rattle.std.specs.Prelude.{ℕ, zero, suc, ◌+◌, ◌-◌, min, ◌≡◌, List, get_or}
use Rattle.error.specs.Answer.{Answer, Ok, Err, if_eq}
use Rattle.obj.specs.Block.{block_of}
use Rattle.node.specs.Node.{node_of}
use Rattle.node.specs.declared.layout.Node.{Node}
use Rattle.btree.specs.Scan.{Run, end, refused, Tail}
use Rattle.btree.specs.Inner.{leaf_from, in_keyed, walk}
use Rattle.btree.specs.declared.entries.Keys.{Keys}
use Rattle.btree.specs.declared.entries.Search.{Search}
use Rattle.btree.specs.declared.leaf.InLeaf.{InLeaf}
use Rattle.btree.specs.declared.leaf.InLeaf.TheVariants as leaf
use Rattle.cursor.specs.declared.path.Mark.{Mark}
use Rattle.cursor.specs.declared.path.Path.{Path}
use Rattle.cursor.specs.declared.steps.Reached.{Reached}
use Rattle.cursor.specs.declared.steps.Reached.TheVariants.{Leaf, End, No}
use Rattle.cursor.specs.declared.steps.Step.{Step}

-- document 01, btree.rs, "at most 33 nodes": levels 0 to 32
abbrev pub top_of : Search → ℕ
top_of q = min q.root.level 32

-- the node of a level on the path: the root, or what its block holds
unfoldable pub node_on : List ℕ → Search → ℕ → ℕ → Answer Node
node_on b q level block = if_eq level q.root.level (Ok q.root) (node_of block (block_of q.keys.reader b block))

abbrev pub no_mark : Mark
no_mark = record { block = 0; next = 0 }

abbrev pub go_on : List ℕ → Search → ℕ → Answer Node → ℕ → Tail → Tail
go_on b q level (Ok m) i k = walk b q level m i k
go_on b q level (Err e) i k = refused e

-- what is left of n levels from a level on
unfoldable pub levels : List ℕ → Search → List Mark → ℕ → ℕ → Tail
levels b q ms zero level = end
levels b q ms (suc n) level =
    go_on b q level (node_on b q level (get_or ms level no_mark).block) (get_or ms level no_mark).next (levels b q ms n (level + 1))

-- what is left above a level
unfoldable pub left : List ℕ → Search → Path → ℕ → Tail
left b q c level = levels b q c.marks (top_of q - level) (level + 1)

abbrev pub reached_run : List ℕ → Search → Reached → ℕ → ℕ → Run → Run
reached_run b q (Leaf m) i s k = leaf_from b q m (m.nkeys - i) i s k
reached_run b q End i s k = end s
reached_run b q (No e) i s k = refused e s

-- the run from a leaf's i-th entry on
unfoldable pub run_at : List ℕ → Search → Step → ℕ → Run
run_at b q t i = reached_run b q t.reached i t.nodes (left b q t.path t.level t.nodes)

-- the first record of it that stands in the leaf
abbrev pub in_reached : List ℕ → Keys → Reached → ℕ → InLeaf
in_reached b k (Leaf m) i = in_keyed b k m i
in_reached b k End i = leaf.End
in_reached b k (No e) i = leaf.No e

abbrev pub in_step : List ℕ → Search → Reached → ℕ → InLeaf
in_step b q x i = in_reached b q.keys x i

-- t begins a run: at a record, or where the run ends
pub record Begins (b : List ℕ) (q : Search) (t : Step) (whole : Run) : Type 0 where
  pub run : run_at b q t t.from ≡ whole
  pub there : in_step b q t.reached t.from ≡ leaf.Passed → ⊥
