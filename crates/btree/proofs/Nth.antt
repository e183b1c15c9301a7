-- A run's k-th record at the turns of a node, where k follows: nth of what is left is nth of the whole.
use Prim.Native.Nat.{ℕ, zero, suc, ◌-◌, ◌≤◌, ◌<◌}
use mathlib.Core.Path.{◌≡◌, refl, sym, ap, ◌∙◌}
use mathlib.Core.List.{List}
use Rattle.std.specs.Prelude.{Option, None, Some}
use native.Mathlib.Omega.{arith}
use borrow.Author.Rules.{rules}
use Rattle.error.specs.Answer.{Ok, Err, Answer}
use Rattle.error.specs.declared.Refusal.{Refusal}
use Rattle.error.specs.declared.Refusal.TheVariants.{Corrupt}
use Rattle.arith.specs.Checked.{ticked}
use Rattle.node.specs.Node.{leaf_bit}
use Rattle.node.specs.declared.layout.Node.{Node}
use Rattle.lookup.specs.declared.counted.Counted.{Counted}
use Rattle.lookup.specs.Counted.{after}
use Rattle.btree.specs.Scan.{Run, more, end, refused, Tail, scan_of, nth}
use Rattle.btree.specs.Inner.{leaf_from, in_leaf, in_node, each, Reaches, node, child, walk, met, pass_told, found_of}
use Rattle.btree.specs.Entries.{bytes_of}
use Rattle.btree.specs.declared.entries.Keys.{Keys}
use Rattle.btree.specs.declared.entries.Search.{Search}
use Rattle.node.specs.declared.place.Place.{Place}
use Rattle.btree.specs.declared.leaf.InLeaf.{InLeaf}
use Rattle.btree.specs.declared.leaf.InLeaf.TheVariants as leaf
use Rattle.btree.specs.declared.seek.Turned.{Turned}
use Rattle.btree.specs.declared.seek.Turn.TheVariants as turn
use Rattle.btree.specs.declared.skip.Pass.{Pass}
use Rattle.btree.specs.declared.skip.Pass.TheVariants.{At, Left, End, No}
use Rattle.btree.specs.declared.skip.Passed.{Passed}
use Rattle.btree.proofs.Leaves.{bound_in}
use Rattle.btree.proofs.Turns.{leaf_passed, leaf_end, leaf_at, leaf_no, each_over, each_stop, each_into, each_no, node_leaf, node_index, child_lowest, child_off, child_on, root_low, root_high}

-- a refusal at the root
pub found_no : (p : Pass) (e : Refusal) → p ≡ No e → Err e ≡ found_of p
found_no p e h = rw h

pub nth_end : (n s : ℕ) → after s (Ok None) ≡ nth n (end s)
unfolding nth
nth_end zero s = refl
nth_end (suc n) s = refl

pub nth_refused : (n s : ℕ) (e : Refusal) → after s (Err e) ≡ nth n (refused e s)
unfolding nth
nth_refused zero s e = refl
nth_refused (suc n) s e = refl

module _ (n : ℕ) (p : Place) (s : ℕ) (r : Run) (whole : Counted (Option Place)) (h : nth n (more p s r) ≡ whole) where
  pub nth_here : n ≡ 0 → after s (Ok (Some p)) ≡ whole
  unfolding nth
  nth_here z = rw z at h

  pub nth_past : (n ≡ 0 → ⊥) → nth (n - 1) r ≡ whole
  unfolding nth
  nth_past z = let k : n ≡ suc (n - 1) = omega arith in rw k at h

-- what is left of a leaf from an entry on, by its first record
module _ (b : List ℕ) (q : Search) (m : Node) (i n s : ℕ) (k : Run) (whole : Counted (Option Place)) (p : nth n (leaf_from b q m (m.nkeys - i) i s k) ≡ whole) (r : InLeaf) (t : r ≡ in_node b q m i) where
  pub pass_over_lem : r ≡ leaf.Passed → nth n k ≡ whole
  pass_over_lem e = ap (nth n) (leaf_passed b q m i s k _ refl r t e) ∙ p

  pub pass_end : r ≡ leaf.End → after s (Ok None) ≡ whole
  pass_end e = nth_end n s ∙ (ap (nth n) (leaf_end b q m i s k _ refl r t e) ∙ p)

  pub pass_no : (w : Refusal) → r ≡ leaf.No w → after s (Err w) ≡ whole
  pass_no w e = nth_refused n s w ∙ (ap (nth n) (leaf_no b q m i s k _ refl r t w e) ∙ p)

  module _ (x : Place) (a : ℕ) (e : r ≡ leaf.At x a) where
    there : nth n (more x s (leaf_from b q m (m.nkeys - a) a s k)) ≡ whole
    there = ap (nth n) (leaf_at b q m i s k _ refl r t x a e) ∙ p

    pub pass_here : n ≡ 0 → after s (Ok (Some x)) ≡ whole
    pass_here z = nth_here n _ _ _ whole there z

    pub pass_past : (n ≡ 0 → ⊥) → nth (n - 1) (leaf_from b q m (m.nkeys - a) a s k) ≡ whole
    pass_past z = nth_past n _ _ _ whole there z

-- a leaf in the block c, of whatever image and search it is
module _ (c : List ℕ) (j : Keys) (m : Node) (i : ℕ) (r : InLeaf) (t : r ≡ in_leaf c m j.info j.id j.kind (m.nkeys - i) i) where
  pub in_that : (b : List ℕ) (q : Search) → j ≡ q.keys → c ≡ bytes_of b q m → r ≡ in_node b q m i
  in_that b q e f = rw (e, f) at t

  -- the entries that are left grow fewer
  pub leaf_less : (x : Place) (a : ℕ) → r ≡ leaf.At x a → m.nkeys - a < m.nkeys - i
  leaf_less x a e = let low = bound_in c m j.info j.id j.kind x a (m.nkeys - i) i refl (sym t ∙ e) in omega (arith, low)

pub ruleset leaves = (rules, pass_over_lem, pass_end, pass_no, pass_here, pass_past, leaf_less)

-- an answer that was made
module _ (r : Passed) (s : ℕ) (k : Tail) (whole : Counted (Option Place)) where
  pub made_left : (x : ℕ) → r ≡ record { pass = Left x; nodes = s } → nth x (k s) ≡ whole → pass_told r k ≡ whole
  unfolding pass_told
  made_left x e h = rw e h

  pub made_end : r ≡ record { pass = End; nodes = s } → after s (Ok None) ≡ whole → pass_told r k ≡ whole
  unfolding pass_told
  made_end e h = rw e h

  pub made_no : (w : Refusal) → r ≡ record { pass = No w; nodes = s } → after s (Err w) ≡ whole → pass_told r k ≡ whole
  unfolding pass_told
  made_no w e h = rw e h

-- an answer that does not see what follows
unfoldable pub Final : Pass → Type 0
Final (At p) = Unit
Final (Left n) = ⊥
Final End = Unit
Final (No w) = Unit

module _ (x : Pass) where
  pub final_at : (p : Place) → x ≡ At p → Final x
  unfolding Final
  final_at p e = rw e tt

  pub final_end : x ≡ End → Final x
  unfolding Final
  final_end e = rw e tt

  pub final_no : (w : Refusal) → x ≡ No w → Final x
  unfolding Final
  final_no w e = rw e tt

kept : (r : Passed) (j k : Tail) → Final r.pass → pass_told r j ≡ pass_told r k
unfolding pass_told Final
kept r j k h = of r.pass h
  where
    of : (x : Pass) → Final x → met x r.nodes (j r.nodes) ≡ met x r.nodes (k r.nodes)
    of (At y) f = refl
    of (Left n) f = absurd f
    of End f = refl
    of (No w) f = refl

-- what is left of an index node from an entry on, by its next turn, c nodes having been gone through
module _ (f : Node → Tail → Tail) (b : List ℕ) (q : Search) (m : Node) (i n : ℕ) (k : Tail) (c : ℕ) (whole : Counted (Option Place)) (p : nth n (each f b q m (m.nkeys - i) i k c) ≡ whole) (r : Turned) (t : Reaches b q m i c r) where
  pub turn_over : r.turn ≡ turn.Over → nth n (k r.nodes) ≡ whole
  turn_over e = ap (nth n) (each_over f b q m i k c _ refl r t e) ∙ p

  pub turn_stop : r.turn ≡ turn.Stop → after r.nodes (Ok None) ≡ whole
  turn_stop e = nth_end n r.nodes ∙ (ap (nth n) (each_stop f b q m i k c _ refl r t e) ∙ p)

  pub turn_no : (w : Refusal) → r.turn ≡ turn.No w → after r.nodes (Err w) ≡ whole
  turn_no w e = nth_refused n r.nodes w ∙ (ap (nth n) (each_no f b q m i k c _ refl r t w e) ∙ p)

  -- a child was gone into, and s came of it
  module _ (d : Node) (g : r.turn ≡ turn.Into d) (s : Passed) (e : (j : Tail) → pass_told s j ≡ nth n (f d j r.nodes)) where
    came : pass_told s (each f b q m (m.nkeys - r.next) r.next k) ≡ whole
    came = e _ ∙ (ap (nth n) (each_into f b q m i k c _ refl r t d g) ∙ p)

    pub turn_left : (x : ℕ) → s.pass ≡ Left x → nth x (each f b q m (m.nkeys - r.next) r.next k s.nodes) ≡ whole
    unfolding pass_told
    turn_left x h = rw h at came

    pub turn_kept : (j : Tail) → Final s.pass → pass_told s j ≡ whole
    turn_kept j h = kept s j _ h ∙ came

-- the entries that are left of an index node grow fewer
pub index_less : (b : List ℕ) (q : Search) (m : Node) (i s : ℕ) (r : Turned) (d : Node) → Reaches b q m i s r → r.turn ≡ turn.Into d → m.nkeys - r.next < m.nkeys - i
index_less b q m i s r d t g = omega (arith, t.behind d g)

pub ruleset indexes = (rules, made_left, made_end, made_no, final_at, final_end, final_no, turn_over, turn_stop, turn_no, turn_left, turn_kept, index_less)

-- a child, and a node
module _ (b : List ℕ) (q : Search) (level n : ℕ) (m : Node) (k : Tail) (s : ℕ) where
  pub pass_lowest : level ≡ 0 → after s (Err Corrupt) ≡ nth n (child b q level m k s)
  pass_lowest h = nth_refused n s Corrupt ∙ ap (nth n) (child_lowest b q m k s level h)

  pub pass_off : (level ≡ 0 → ⊥) → (m.level ≡ level - 1 → ⊥) → after s (Err Corrupt) ≡ nth n (child b q level m k s)
  pass_off h d = nth_refused n s Corrupt ∙ ap (nth n) (child_off b q m k s level h d)

  pub pass_in : (z : Counted (Option Place)) → (level ≡ 0 → ⊥) → m.level ≡ level - 1 → z ≡ nth n (walk b q (level - 1) m 0 k s) → z ≡ nth n (child b q level m k s)
  pass_in z h d e = e ∙ ap (nth n) (child_on b q m k s level _ h d refl)

module _ (f : Node → Tail → Tail) (b : List ℕ) (q : Search) (n : ℕ) (m : Node) (k : Tail) (s : ℕ) where
  pub node_as_leaf : (x : Pass) → leaf_bit m.flags ≡ 1 → met x s (k s) ≡ nth n (leaf_from b q m (m.nkeys - 0) 0 s (k s)) → pass_told (record { pass = x; nodes = s }) k ≡ nth n (node f b q m 0 k s)
  unfolding pass_told
  node_as_leaf x h e = e ∙ ap (nth n) (node_leaf f b q m 0 k s _ h refl)

  pub node_as_index : (leaf_bit m.flags ≡ 1 → ⊥) → nth n (each f b q m (m.nkeys - 0) 0 k s) ≡ nth n (node f b q m 0 k s)
  node_as_index h = ap (nth n) (node_index f b q m 0 k s _ h refl)

pub ruleset nodes = (rules, made_no, pass_lowest, pass_off, pass_in, node_as_leaf, node_as_index)

-- the root, which nothing follows
module _ (b : List ℕ) (q : Search) (n s : ℕ) where
  pub scan_high : 32 < q.root.level → after s (Err Corrupt) ≡ nth n (scan_of b q s)
  scan_high h = nth_refused n s Corrupt ∙ ap (nth n) (root_high b q s h)

  pub scan_told : (r : Passed) (x : Answer (Option Place)) (t : ℕ) → q.root.level ≤ 32 → t ≡ ticked s → x ≡ found_of r.pass →
      ((k : Tail) → pass_told r k ≡ nth n (walk b q q.root.level q.root 0 k t)) → after r.nodes x ≡ nth n (scan_of b q s)
  unfolding pass_told
  scan_told r x t h c g e = (rw g (of r.pass)) ∙ (e end ∙ ap (nth n) (root_low b q s t _ h c refl))
    where
      of : (y : Pass) → after r.nodes ((found_of y)) ≡ met y r.nodes (end r.nodes)
      of (At p) = refl
      of (Left k) = nth_end k r.nodes
      of End = refl
      of (No w) = refl
