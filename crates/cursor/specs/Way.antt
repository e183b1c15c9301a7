-- The way down to an id's first record, on which the scans of its greater kinds begin too: a buyer may pass over this file.
-- `begin` and `resume` are proved to begin `scan_of` (`Begins`, specs/Left.antt).
use Rattle.std.specs.Prelude.{ℕ, zero, suc, ◌+◌, ◌-◌, ◌≤◌, ◌<◌, ◌≡◌, Bool, true, false, cond, List, get_or}
use Rattle.error.specs.Answer.{Answer, Ok, Err}
use Rattle.node.specs.declared.layout.Node.{Node}
use Rattle.btree.specs.Scan.{scan_of}
use Rattle.btree.specs.Inner.{in_node, walk, kinded, stays_at}
use Rattle.btree.specs.declared.entries.Search.{Search}
use Rattle.btree.specs.declared.leaf.InLeaf.{InLeaf}
use Rattle.btree.specs.declared.leaf.InLeaf.TheVariants as leaf
use Rattle.cursor.specs.Left.{top_of, no_mark, node_on, left}
use Rattle.cursor.specs.Inner.{Known}
use Rattle.cursor.specs.declared.path.Mark.{Mark}
use Rattle.cursor.specs.declared.path.Path.{Path}
use Rattle.cursor.specs.declared.way.Way.{Way}

-- whether a search goes into the child before the i-th entry of a node
abbrev pub stay_of : List ℕ → Search → Answer Node → ℕ → Bool → Bool
stay_of b q (Ok m) i x = cond (stays_at b q m i) x false
stay_of b q (Err e) i x = false

-- and so on n levels from a level on
unfoldable pub levels_stay : List ℕ → Search → List Mark → ℕ → ℕ → Bool
levels_stay b q ms zero level = true
levels_stay b q ms (suc n) level =
    stay_of b q (node_on b q level (get_or ms level no_mark).block) (get_or ms level no_mark).next (levels_stay b q ms n (level + 1))

-- above a level
unfoldable pub stays_on : List ℕ → Search → Path → ℕ → Bool
stays_on b q c level = levels_stay b q c.marks (top_of q - level) (level + 1)

-- the entry of a leaf's first record, or its first entry
abbrev pub record_in : InLeaf → ℕ
record_in (leaf.At p a) = a - 1
record_in leaf.Passed = 0
record_in leaf.End = 0
record_in (leaf.No e) = 0

-- the scan is what is left from the i-th entry of a node of a level on
abbrev pub Comes : List ℕ → Search → ℕ → ℕ → Node → ℕ → Path → ℕ → Type 0
Comes b q s level m i c n = walk b q level m i (left b q c level) n ≡ scan_of b q s

-- w is the way of a search, and of one of the same id and a greater kind that goes into each child on it
pub record Leads (b : List ℕ) (q : Search) (s : ℕ) (w : Way) : Type 0 where
  pub low : q.root.level ≤ 32 → (w.level ≤ top_of q) × Known b q w.level w.node
  pub own : q.root.level ≤ 32 → Comes b q s w.level w.node w.from w.path w.nodes
  pub higher : (k : ℕ) → q.keys.kind < k → q.root.level ≤ 32 → stays_on b (kinded q k) w.path w.level ≡ true →
      Comes b (kinded q k) s w.level w.node w.from w.path w.nodes
