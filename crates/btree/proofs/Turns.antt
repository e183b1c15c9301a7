-- The turns at the entries of a node, and what a node and a child come to.
use Prim.Native.Nat.{ℕ, zero, suc, ◌+◌, ◌-◌, ◌≤◌, ◌<◌}
use mathlib.Core.Path.{◌≡◌, refl, sym, ap, ◌∙◌}
use mathlib.Core.List.{List}
use native.Mathlib.Numerals.{sub-one}
use native.Mathlib.Omega.{arith}
use borrow.Author.Rules.{rules}
use Rattle.error.specs.Answer.{if_eq, Answer, Err}
use Rattle.error.specs.declared.Refusal.{Refusal}
use Rattle.error.specs.declared.Refusal.TheVariants.{Corrupt}
use Rattle.error.proofs.Laws.{same, other}
use Rattle.arith.specs.Checked.{ticked}
use Rattle.node.specs.Node.{leaf_bit}
use Rattle.node.specs.declared.layout.Node.{Node}
use Rattle.btree.specs.Scan.{Run, more, end, refused, Tail, scan_of}
use Rattle.btree.specs.Inner.{leaf_from, in_node, in_then, each, turn_of, turn_then, Reaches, node, child, walk}
use Rattle.btree.specs.declared.entries.Search.{Search}
use Rattle.node.specs.declared.place.Place.{Place}
use Rattle.btree.specs.declared.leaf.InLeaf.{InLeaf}
use Rattle.btree.specs.declared.leaf.InLeaf.TheVariants as leaf
use Rattle.btree.specs.declared.seek.Turn.TheVariants as turn
use Rattle.btree.specs.declared.seek.Turned.{Turned}
use Rattle.btree.proofs.Parts.{walk_scan, high_scan}
use Rattle.btree.proofs.Leaves.{leaf_in}

-- what is left of a leaf from an entry on, by its first record
module _ (b : List ℕ) (q : Search) (m : Node) (i s : ℕ) (k whole : Run) (p : leaf_from b q m (m.nkeys - i) i s k ≡ whole) (r : InLeaf) (t : r ≡ in_node b q m i) where
  finds : in_then b q m r s k ≡ whole
  finds = (rw t) ∙ (sym (leaf_in b q m i s k) ∙ p)

  pub leaf_passed : r ≡ leaf.Passed → k ≡ whole
  leaf_passed e = rw e at finds

  pub leaf_end : r ≡ leaf.End → end s ≡ whole
  leaf_end e = rw e at finds

  pub leaf_at : (x : Place) (a : ℕ) → r ≡ leaf.At x a → more x s (leaf_from b q m (m.nkeys - a) a s k) ≡ whole
  leaf_at x a e = rw e at finds

  pub leaf_no : (w : Refusal) → r ≡ leaf.No w → refused w s ≡ whole
  leaf_no w e = rw e at finds

-- what is left of an index node from an entry on, by its next turn
module _ (f : Node → Tail → Tail) (b : List ℕ) (q : Search) (m : Node) (i : ℕ) (k : Tail) (s : ℕ) (whole : Run) (p : each f b q m (m.nkeys - i) i k s ≡ whole) (r : Turned) (t : Reaches b q m i s r) where
  turns_to : turn_then f b q m r.turn r.next k r.nodes ≡ whole
  turns_to = t.course f k ∙ p

  pub each_over : r.turn ≡ turn.Over → k r.nodes ≡ whole
  each_over e = rw e at turns_to

  pub each_stop : r.turn ≡ turn.Stop → end r.nodes ≡ whole
  each_stop e = rw e at turns_to

  pub each_into : (c : Node) → r.turn ≡ turn.Into c → f c (each f b q m (m.nkeys - r.next) r.next k) r.nodes ≡ whole
  each_into c e = rw e at turns_to

  pub each_no : (w : Refusal) → r.turn ≡ turn.No w → refused w r.nodes ≡ whole
  each_no w e = rw e at turns_to

-- a child that is not read
pub turn_no : (n : Answer Node) (e : Refusal) → n ≡ Err e → turn.No e ≡ turn_of n
turn_no n e h = rw h

-- a node, by its flag
module _ (f : Node → Tail → Tail) (b : List ℕ) (q : Search) (m : Node) (i : ℕ) (k : Tail) where
  pub as_leaf : leaf_bit m.flags ≡ 1 → (λ (s : ℕ). leaf_from b q m (m.nkeys - i) i s (k s)) ≡ node f b q m i k
  unfolding node
  as_leaf h = same _ _ _ _ _ h refl

  pub as_index : (leaf_bit m.flags ≡ 1 → ⊥) → each f b q m (m.nkeys - i) i k ≡ node f b q m i k
  unfolding node
  as_index h = other _ _ _ _ _ h refl

  pub node_leaf : (s : ℕ) (z : Run) → leaf_bit m.flags ≡ 1 → z ≡ leaf_from b q m (m.nkeys - i) i s (k s) → z ≡ node f b q m i k s
  node_leaf s z h e = e ∙ ap (λ (g : Tail). g s) (as_leaf h)

  pub node_index : (s : ℕ) (z : Run) → (leaf_bit m.flags ≡ 1 → ⊥) → z ≡ each f b q m (m.nkeys - i) i k s → z ≡ node f b q m i k s
  node_index s z h e = e ∙ ap (λ (g : Tail). g s) (as_index h)

-- a child, by its parent's level
module _ (b : List ℕ) (q : Search) (m : Node) (k : Tail) (s : ℕ) where
  pub child_lowest : (level : ℕ) → level ≡ 0 → refused Corrupt s ≡ child b q level m k s
  unfolding child
  child_lowest level h = rw h

  below : (level : ℕ) → (level ≡ 0 → ⊥) → if_eq m.level (level - 1) (node (child b q (level - 1)) b q m 0 k s) (refused Corrupt s) ≡ child b q level m k s
  unfolding child
  below zero h = absurd (h refl)
  below (suc n) h = rw sub-one

  pub child_off : (level : ℕ) → (level ≡ 0 → ⊥) → (m.level ≡ level - 1 → ⊥) → refused Corrupt s ≡ child b q level m k s
  child_off level h d = other _ _ _ _ _ d refl ∙ below level h

  pub child_on : (level : ℕ) (z : Run) → (level ≡ 0 → ⊥) → m.level ≡ level - 1 → z ≡ node (child b q (level - 1)) b q m 0 k s → z ≡ child b q level m k s
  child_on level z h d e = (e ∙ same _ _ _ _ _ d refl) ∙ below level h

-- the root, by its level
module _ (b : List ℕ) (q : Search) (s : ℕ) where
  pub root_low : (n : ℕ) (z : Run) → q.root.level ≤ 32 → n ≡ ticked s → z ≡ walk b q q.root.level q.root 0 end n → z ≡ scan_of b q s
  root_low n z h t e = (rw t at e) ∙ walk_scan b q s h

  pub root_high : 32 < q.root.level → refused Corrupt s ≡ scan_of b q s
  root_high h = high_scan b q s h

pub ruleset turns = (rules, leaf_passed, leaf_end, leaf_at, leaf_no, each_over, each_stop, each_into, each_no, node_leaf, node_index, child_lowest, child_off, child_on, root_high)
