-- The scan as the code's loops go: a buyer may pass over this file. A definition takes what follows it, k, by the count so far.
-- `walk` of a root is proved to be `counted_part` of its `node_part` (proofs/Parts.antt); the rest is what is left of a loop.
use Rattle.std.specs.Prelude.{ℕ, zero, suc, ◌+◌, ◌-◌, ◌≤◌, ◌<◌, ◌≡◌, List, Bool, true, false}
use Rattle.std.specs.Prelude.{Option, None, Some}
use Rattle.error.specs.Answer.{Answer, Ok, Err, if_le, if_eq}
use Rattle.error.specs.declared.Refusal.TheVariants.{Corrupt}
use Rattle.obj.specs.Block.{block_of}
use Rattle.node.specs.Node.{leaf_bit}
use Rattle.node.specs.declared.layout.Node.{Node}
use Rattle.node.specs.declared.layout.Info.{Info}
use Rattle.lookup.specs.declared.counted.Counted.{Counted}
use Rattle.lookup.specs.Counted.{after}
use Rattle.lookup.specs.Path.{counted}
use Rattle.lookup.specs.Read.{node_at}
use Rattle.btree.specs.Entries.{bytes_of, order_in, order_at, Leaf, pass_over, end_scan, record_at, item_in, item_at, Act, stop, skip, into, enter_at, turn_at}
use Rattle.btree.specs.Scan.{Run, more, end, refused, Tail, nth}
use Rattle.btree.specs.declared.entries.Keys.{Keys}
use Rattle.btree.specs.declared.entries.Search.{Search}
use Rattle.node.specs.declared.place.Place.{Place}
use Rattle.btree.specs.declared.entries.Order.{Order}
use Rattle.btree.specs.declared.entries.Order.TheVariants.{Below, Inside, Above}
use Rattle.btree.specs.declared.leaf.InLeaf.{InLeaf}
use Rattle.btree.specs.declared.leaf.InLeaf.TheVariants as leaf
use Rattle.btree.specs.declared.seek.Seek.{Seek}
use Rattle.btree.specs.declared.seek.Seek.TheVariants as seek
use Rattle.btree.specs.declared.seek.Turn.{Turn}
use Rattle.btree.specs.declared.seek.Turn.TheVariants as turn
use Rattle.btree.specs.declared.seek.Turned.{Turned}
use Rattle.btree.specs.declared.skip.Pass.{Pass}
use Rattle.btree.specs.declared.skip.Pass.TheVariants.{At, Left, End, No}
use Rattle.btree.specs.declared.skip.Passed.{Passed}

-- what an entry of a leaf gives, where k follows
unfoldable pub leaf_then : Answer Leaf → ℕ → Run → Run
leaf_then (Ok pass_over) s k = k
leaf_then (Ok end_scan) s k = end s
leaf_then (Ok (record_at p)) s k = more p s k
leaf_then (Err e) s k = refused e s

-- n entries of a leaf from the i-th on (btree.rs, `scan_node`)
unfoldable pub leaf_from : List ℕ → Search → Node → ℕ → ℕ → ℕ → Run → Run
leaf_from b q m zero i s k = k
leaf_from b q m (suc n) i s k = leaf_then (item_at b q m i) s (leaf_from b q m n (i + 1) s k)

-- the first record of n entries of a leaf in the block b, from the i-th on, and the entry after it
abbrev pub item_then : Answer Leaf → ℕ → InLeaf → InLeaf
item_then (Ok pass_over) i k = k
item_then (Ok end_scan) i k = leaf.End
item_then (Ok (record_at p)) i k = leaf.At p i
item_then (Err e) i k = leaf.No e

unfoldable pub in_leaf : List ℕ → Node → Info → ℕ → ℕ → ℕ → ℕ → InLeaf
in_leaf b m info id kind zero i = leaf.Passed
in_leaf b m info id kind (suc n) i = item_then (item_in b m info id kind i) (i + 1) (in_leaf b m info id kind n (i + 1))

abbrev pub in_keyed : List ℕ → Keys → Node → ℕ → InLeaf
in_keyed b k m i = in_leaf (block_of k.reader b m.block) m k.info k.id k.kind (m.nkeys - i) i

abbrev pub in_node : List ℕ → Search → Node → ℕ → InLeaf
in_node b q m i = in_keyed b q.keys m i

-- what such a record stands for, where k follows the leaf: `leaf_from` (`leaf_in`, proofs/Leaves.antt)
abbrev pub in_then : List ℕ → Search → Node → InLeaf → ℕ → Run → Run
in_then b q m (leaf.At p a) s k = more p s (leaf_from b q m (m.nkeys - a) a s k)
in_then b q m leaf.Passed s k = k
in_then b q m leaf.End s k = end s
in_then b q m (leaf.No e) s k = refused e s

abbrev pub acting : (Node → Tail → Tail) → Answer Act → Tail → Tail
acting f (Ok stop) k = end
acting f (Ok skip) k = k
acting f (Ok (into m)) k = f m k
acting f (Err e) k = refused e

-- what an entry of an index node gives, with f at a child
unfoldable pub act : (Node → Tail → Tail) → Counted Act → Tail → Run
act f c k = acting f c.answer k c.nodes

-- n entries of an index node from the i-th on (btree.rs, `scan_node`)
unfoldable pub each : (Node → Tail → Tail) → List ℕ → Search → Node → ℕ → ℕ → Tail → Tail
each f b q m zero i k = k
each f b q m (suc n) i k = λ s. act f (counted s (turn_at b q m i)) (each f b q m n (i + 1) k)

-- the entry that is gone into, of n entries of an index node in the block b from the i-th on: one is skipped where it is not above and
-- its next is below
abbrev pub next_then : Answer Order → ℕ → Seek → Seek
next_then (Ok Below) i k = k
next_then (Ok Inside) i k = seek.At i
next_then (Ok Above) i k = seek.At i
next_then (Err e) i k = seek.No e

-- n entries come after the i-th
abbrev pub follow_then : ℕ → Answer Order → ℕ → Seek → Seek
follow_then zero a i k = seek.At i
follow_then (suc n) a i k = next_then a i k

abbrev pub here_then : Answer Order → Seek → Seek
here_then (Ok Below) k = k
here_then (Ok Inside) k = k
here_then (Ok Above) k = seek.Stop
here_then (Err e) k = seek.No e

unfoldable pub seek_in : List ℕ → Node → Info → ℕ → ℕ → ℕ → ℕ → Seek
seek_in b m info id kind zero i = seek.Over
seek_in b m info id kind (suc n) i =
    here_then (order_in b m info id kind i)
    (follow_then n (order_in b m info id kind (i + 1)) i (seek_in b m info id kind n (i + 1)))

abbrev pub seek_at : List ℕ → Search → Node → ℕ → Seek
seek_at b q m i = seek_in (bytes_of b q m) m q.keys.info q.keys.id q.keys.kind (m.nkeys - i) i

-- the same of an entry that is not above
unfoldable pub follow_in : List ℕ → Node → Info → ℕ → ℕ → ℕ → Seek
follow_in b m info id kind i =
    follow_then (m.nkeys - (i + 1)) (order_in b m info id kind (i + 1)) i (seek_in b m info id kind (m.nkeys - (i + 1)) (i + 1))

-- what it comes to, where k follows the node: `each` (`each_seek`, proofs/Seeking.antt)
abbrev pub seek_then : (Node → Tail → Tail) → List ℕ → Search → Node → Seek → Tail → Tail
seek_then f b q m seek.Over k s = k s
seek_then f b q m seek.Stop k s = end s
seek_then f b q m (seek.At i) k s = act f (counted s (enter_at b q m i)) (each f b q m (m.nkeys - (i + 1)) (i + 1) k)
seek_then f b q m (seek.No e) k s = refused e s

abbrev pub turn_of : Answer Node → Turn
turn_of (Ok c) = turn.Into c
turn_of (Err e) = turn.No e

-- what a turn comes to, where k follows the node
abbrev pub turn_then : (Node → Tail → Tail) → List ℕ → Search → Node → Turn → ℕ → Tail → Tail
turn_then f b q m turn.Over i k s = k s
turn_then f b q m turn.Stop i k s = end s
turn_then f b q m (turn.Into c) i k s = f c (each f b q m (m.nkeys - i) i k) s
turn_then f b q m (turn.No e) i k s = refused e s

-- the same search for another kind
abbrev pub kinded : Search → ℕ → Search
kinded q k = record { keys = record { reader = q.keys.reader; info = q.keys.info; id = q.keys.id; kind = k; hashed = q.keys.hashed }; root = q.root; resolve = q.resolve }

abbrev pub not_below : Answer Order → Bool
not_below (Ok Below) = false
not_below (Ok Inside) = true
not_below (Ok Above) = true
not_below (Err e) = false

-- whether a child before the i-th entry of an index node is gone into: the entry is not below, or there is none
unfoldable pub stays_at : List ℕ → Search → Node → ℕ → Bool
stays_at b q m i = if_le m.nkeys i true (not_below (order_at b q m i))

-- r is the next turn of an index node from its i-th entry on, s nodes having been gone through: the node goes on behind a child, which was read
pub record Reaches (b : List ℕ) (q : Search) (m : Node) (i s : ℕ) (r : Turned) : Type 0 where
  pub course : (f : Node → Tail → Tail) (k : Tail) → turn_then f b q m r.turn r.next k r.nodes ≡ each f b q m (m.nkeys - i) i k s
  pub behind : (c : Node) → r.turn ≡ turn.Into c → (i < r.next) × (r.next ≤ m.nkeys)
  pub known : (c : Node) → r.turn ≡ turn.Into c → node_at q.keys.reader b c.block ≡ Ok c
  -- a search of the same id and a greater kind goes into the same child, unless the entry behind it is below
  pub higher : (c : Node) → r.turn ≡ turn.Into c → (k : ℕ) → q.keys.kind < k → stays_at b (kinded q k) m r.next ≡ true →
      (f : Node → Tail → Tail) (t : Tail) → f c (each f b (kinded q k) m (m.nkeys - r.next) r.next t) r.nodes ≡ each f b (kinded q k) m (m.nkeys - i) i t s

-- a node from its i-th entry on; a leaf is told by its flag, at any level (btree.rs, `is_leaf`)
unfoldable pub node : (Node → Tail → Tail) → List ℕ → Search → Node → ℕ → Tail → Tail
node f b q m i k =
    if_eq (leaf_bit m.flags) 1
    (λ s. leaf_from b q m (m.nkeys - i) i s (k s))
    (each f b q m (m.nkeys - i) i k)

-- a child of a node of a level. Document 01, btree.rs: "A child whose level + 1 differs from its parent's is 2"
unfoldable pub child : List ℕ → Search → ℕ → Node → Tail → Tail
child b q zero m k = refused Corrupt
child b q (suc n) m k = λ s. if_eq m.level n (node (child b q n) b q m 0 k s) (refused Corrupt s)

-- a node of a level from its i-th entry on
abbrev pub walk : List ℕ → Search → ℕ → Node → ℕ → Tail → Tail
walk b q level m i k = node (child b q level) b q m i k

-- what a part that was passed gives where k follows it, some records being still to skip
abbrev pub met : Pass → ℕ → Run → Counted (Option Place)
met (At p) s k = after s (Ok (Some p))
met (Left n) s k = nth n k
met End s k = after s (Ok None)
met (No e) s k = after s (Err e)

unfoldable pub pass_told : Passed → Tail → Counted (Option Place)
pass_told r k = met r.pass r.nodes (k r.nodes)

-- at the root nothing follows
abbrev pub found_of : Pass → Answer (Option Place)
found_of (At p) = Ok (Some p)
found_of (Left n) = (Ok None)
found_of End = (Ok None)
found_of (No e) = Err e
