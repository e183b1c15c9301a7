-- What is left above a leaf, and how a step of a part stands in the whole.
use Prim.Native.Nat.{ℕ, zero, suc, ◌+◌, ◌-◌, ◌≤◌, ◌<◌, min}
use mathlib.Core.Path.{◌≡◌, refl, sym, ap, ◌∙◌}
use mathlib.Core.List.{List}
use lib.ListN.{length, set}
use lib.Seq.{get_or-set_same, get_or-set_other}
use native.Mathlib.Omega.{arith}
use native.Mathlib.Decide.{ℕ_discrete}
use borrow.Author.Rules.{rules}
use Rattle.error.specs.Answer.{Answer, Ok, Err}
use Rattle.error.specs.declared.Refusal.{Refusal}
use Rattle.error.proofs.Laws.{same, other, eq_cases}
use Rattle.obj.specs.Block.{block_of}
use Rattle.arith.specs.Checked.{ticked}
use Rattle.node.specs.Node.{leaf_bit, node_of}
use Rattle.node.specs.declared.layout.Node.{Node}
use Rattle.lookup.specs.Read.{node_at}
use Rattle.lookup.proofs.Again.{read_again, again_block}
use Rattle.btree.specs.Scan.{Run, end, refused, Tail, scan_of}
use Rattle.btree.specs.Inner.{leaf_from, in_keyed, in_node, each, Reaches, child, walk}
use Rattle.btree.specs.declared.entries.Keys.{Keys}
use Rattle.btree.specs.declared.entries.Search.{Search}
use Rattle.node.specs.declared.place.Place.{Place}
use Rattle.btree.specs.declared.leaf.InLeaf.{InLeaf}
use Rattle.btree.specs.declared.leaf.InLeaf.TheVariants as leaf
use Rattle.btree.specs.declared.seek.Turn.TheVariants as turn
use Rattle.btree.specs.declared.seek.Turned.{Turned}
use Rattle.btree.proofs.Leaves.{in_bound, in_back, leaf_jump}
use Rattle.btree.proofs.Turns.{leaf_passed, leaf_end, leaf_no, as_index, node_leaf, child_on, each_into, root_low}
use Rattle.cursor.specs.Left.{top_of, no_mark, node_on, go_on, levels, left, reached_run, run_at, in_reached, in_step, Begins}
use Rattle.cursor.specs.Inner.{mark_of, with_mark, Known, onward, part_then, part_run, Makes, in_whole}
use Rattle.cursor.specs.declared.path.Mark.{Mark}
use Rattle.cursor.specs.declared.path.Path.{Path}
use Rattle.cursor.specs.declared.steps.Reached.{Reached}
use Rattle.cursor.specs.declared.steps.Step.{Step}
use Rattle.cursor.specs.declared.walk.InPart.{InPart}
use Rattle.cursor.specs.declared.walk.InPart.TheVariants.{At, Passed, End, No}
use Rattle.cursor.specs.declared.walk.PartStep.{PartStep}

-- the node of a level, found again by its block
module _ (b : List ℕ) (q : Search) where
  pub known_root : Known b q q.root.level q.root
  unfolding node_on
  known_root = sym (same _ _ _ _ _ refl refl)

  pub known_child : (level : ℕ) (m : Node) → level < q.root.level → node_at q.keys.reader b m.block ≡ Ok m → Known b q level m
  unfolding node_on
  known_child level m h e = sym (other _ _ _ _ _ (λ z. omega arith) (sym (read_again q.keys.reader b m.block m e)))

  pub known_again : (level block : ℕ) (m : Node) → node_on b q level block ≡ Ok m → Known b q level m
  unfolding node_on
  known_again level block m = eq_cases (λ (a : Answer Node). a ≡ Ok m → Known b q level m) (λ z e. sym (same _ _ _ _ _ z (sym e))) (λ z e.
      let j : m.block ≡ block = again_block block (block_of q.keys.reader b block) m e in
      let f : node_of m.block (block_of q.keys.reader b m.block) ≡ Ok m = ap (λ (x : ℕ). node_of x (block_of q.keys.reader b x)) j ∙ e in
      sym (other _ _ _ _ _ z (sym f)))

  -- what is left of the levels above l, after a mark is put at l
  levels_set : (ms : List Mark) (k : Mark) (l n level : ℕ) → l < level → levels b q (set ms l k) n level ≡ levels b q ms n level
  unfolding levels
  levels_set ms k l zero level h = refl
  levels_set ms k l (suc n) level h =
      let j : l < level + 1 = omega arith in
      let d : level ≡ l → ⊥ = λ e. omega arith in
      rw (get_or-set_other ms l level k no_mark d, levels_set ms k l n (level + 1) j)

-- what is left above the children of a node, once it is marked
module _ (b : List ℕ) (q : Search) (level : ℕ) (m : Node) (i : ℕ) (c d : Path) (low : level ≤ top_of q) (known : Known b q level m) (size : length c.marks ≡ 33) (p : d ≡ with_mark c level (record { block = m.block; next = i })) where
  pub left_put : (level ≡ 0 → ⊥) → left b q d (level - 1) ≡ walk b q level m i (left b q c level)
  unfolding left levels
  left_put n =
      let j : top_of q - (level - 1) ≡ suc (top_of q - level) = omega arith in
      let t : level - 1 + 1 ≡ level = omega arith in
      let e : level < length c.marks = omega arith in
      let l : level < level + 1 = omega arith in
      rw (p, j, t, get_or-set_same c.marks level (record { block = m.block; next = i }) no_mark e, known, levels_set b q c.marks (record { block = m.block; next = i }) level (top_of q - level) (level + 1) l)

  pub left_index : (level ≡ 0 → ⊥) → (leaf_bit m.flags ≡ 1 → ⊥) → left b q d (level - 1) ≡ onward b q level m i c
  left_index n h = left_put n ∙ sym (as_index (child b q level) b q m i (left b q c level) h)

-- a step that was made
module _ (b : List ℕ) (q : Search) (r : PartStep) (i level s : ℕ) (c : Path) (k : Tail) (whole : Run) where
  pub made_at : (m : Node) → r ≡ record { found = At m; from = i; level = level; path = c; nodes = s } →
      leaf_from b q m (m.nkeys - i) i s (left b q c level s) ≡ whole → (in_node b q m i ≡ leaf.Passed → ⊥) → Makes b q r k whole
  unfolding part_run
  made_at m e h t = rw e (record { run = h; there = λ n g. let z : m ≡ n = cc in rw (← z) t })

  pub made_passed : r ≡ record { found = Passed; from = i; level = level; path = c; nodes = s } → k s ≡ whole → Makes b q r k whole
  unfolding part_run
  made_passed e h = rw e (record { run = h; there = λ n g. absurd (let z : ◌≡◌ {A = ℕ} 0 1 = cc in omega arith) })

  pub made_end : r ≡ record { found = End; from = i; level = level; path = c; nodes = s } → end s ≡ whole → Makes b q r k whole
  unfolding part_run
  made_end e h = rw e (record { run = h; there = λ n g. absurd (let z : ◌≡◌ {A = ℕ} 0 1 = cc in omega arith) })

  pub made_no : (w : Refusal) → r ≡ record { found = No w; from = i; level = level; path = c; nodes = s } → refused w s ≡ whole → Makes b q r k whole
  unfolding part_run
  made_no w e h = rw e (record { run = h; there = λ n g. absurd (let z : ◌≡◌ {A = ℕ} 0 1 = cc in omega arith) })

-- a leaf from an entry on, by its first record
module _ (b : List ℕ) (q : Search) (r : PartStep) (m : Node) (i j level s : ℕ) (c : Path) (x : InLeaf) (t : x ≡ in_node b q m i) where
  pub leaf_found : (p : Place) (a : ℕ) → x ≡ leaf.At p a → r ≡ record { found = At m; from = a - 1; level = level; path = c; nodes = s } →
      Makes b q r (left b q c level) (leaf_from b q m (m.nkeys - i) i s (left b q c level s))
  leaf_found p a e h =
      made_at b q r (a - 1) level s c (left b q c level) _ m h (leaf_jump b q m i s _ p a (sym t ∙ e)) (λ g.
      let f : in_node b q m (a - 1) ≡ leaf.At p a = in_back b q m i p a (sym t ∙ e) in
      let z : ◌≡◌ {A = ℕ} 0 1 = cc in omega arith)

  pub leaf_none : x ≡ leaf.Passed → r ≡ record { found = Passed; from = j; level = level; path = c; nodes = s } →
      Makes b q r (left b q c level) (leaf_from b q m (m.nkeys - i) i s (left b q c level s))
  leaf_none e h = made_passed b q r j level s c (left b q c level) _ h (leaf_passed b q m i s _ _ refl x t e)

  pub leaf_ends : x ≡ leaf.End → r ≡ record { found = End; from = j; level = level; path = c; nodes = s } →
      Makes b q r (left b q c level) (leaf_from b q m (m.nkeys - i) i s (left b q c level s))
  leaf_ends e h = made_end b q r j level s c (left b q c level) _ h (leaf_end b q m i s _ _ refl x t e)

  pub leaf_fails : (w : Refusal) → x ≡ leaf.No w → r ≡ record { found = No w; from = j; level = level; path = c; nodes = s } →
      Makes b q r (left b q c level) (leaf_from b q m (m.nkeys - i) i s (left b q c level s))
  leaf_fails w e h = made_no b q r j level s c (left b q c level) _ w h (leaf_no b q m i s _ _ refl x t w e)

pub ruleset leafs = (rules, leaf_found, leaf_none, leaf_ends, leaf_fails)

-- a node that is a leaf
pub as_node_leaf : (b : List ℕ) (q : Search) (r : PartStep) (level : ℕ) (m : Node) (i : ℕ) (k : Tail) (s : ℕ) → leaf_bit m.flags ≡ 1 →
    Makes b q r k (leaf_from b q m (m.nkeys - i) i s (k s)) → Makes b q r k (walk b q level m i k s)
as_node_leaf b q r level m i k s h e = record { run = node_leaf (child b q level) b q m i k s _ h e.run; there = e.there }

-- a child that was gone into
pub gone_in : (b : List ℕ) (q : Search) (level : ℕ) (m : Node) (d : Path) (r : PartStep) (k : Tail) (s : ℕ) → (level ≡ 0 → ⊥) → m.level ≡ level - 1 → left b q d (level - 1) ≡ k →
    Makes b q r (left b q d (level - 1)) (walk b q (level - 1) m 0 (left b q d (level - 1)) s) → Makes b q r k (child b q level m k s)
gone_in b q level m d r k s nz lv e p = record { run = child_on b q m _ s level _ nz lv (rw e at p.run); there = p.there }

-- a step that is no pass does not see what follows
unfoldable pub Final : InPart → Type 0
Final (At m) = Unit
Final Passed = ⊥
Final End = Unit
Final (No w) = Unit

module _ (x : InPart) where
  pub final_at : (m : Node) → x ≡ At m → Final x
  unfolding Final
  final_at m e = rw e tt

  pub final_end : x ≡ End → Final x
  unfolding Final
  final_end e = rw e tt

  pub final_no : (w : Refusal) → x ≡ No w → Final x
  unfolding Final
  final_no w e = rw e tt

module _ (b : List ℕ) (q : Search) (r : PartStep) (k : Tail) (whole : Run) (p : Makes b q r k whole) where
  pub kept : (j : Tail) → Final r.found → Makes b q r j whole
  unfolding part_run Final
  kept j h = record { run = of r.found h ∙ p.run; there = p.there }
    where
      of : (x : InPart) → Final x → part_then b q x r.from r.nodes (left b q r.path r.level r.nodes) (j r.nodes)
          ≡ part_then b q x r.from r.nodes (left b q r.path r.level r.nodes) (k r.nodes)
      of (At y) f = refl
      of Passed f = absurd f
      of End f = refl
      of (No w) f = refl

  pub passed : r.found ≡ Passed → k r.nodes ≡ whole
  unfolding part_run
  passed e = rw e at p.run

-- a turn that went into a child, and s came of it
module _ (f : Node → Tail → Tail) (b : List ℕ) (q : Search) (m : Node) (i : ℕ) (k : Tail) (n : ℕ) (whole : Run) (p : each f b q m (m.nkeys - i) i k n ≡ whole)
    (r : Turned) (t : Reaches b q m i n r) (c : Node) (g : r.turn ≡ turn.Into c)
    (s : PartStep) (e : Makes b q s (each f b q m (m.nkeys - r.next) r.next k) (f c (each f b q m (m.nkeys - r.next) r.next k) r.nodes)) where
  came : Makes b q s (each f b q m (m.nkeys - r.next) r.next k) whole
  came = record { run = e.run ∙ each_into f b q m i k n whole p r t c g; there = e.there }

  pub into_passed : s.found ≡ Passed → each f b q m (m.nkeys - r.next) r.next k s.nodes ≡ whole
  into_passed h = passed b q s _ whole came h

  pub into_kept : (j : Tail) → Final s.found → Makes b q s j whole
  into_kept j h = kept b q s _ whole came j h

-- a part that is refused, in the whole
pub in_whole_no : (x : InPart) (e : Refusal) → x ≡ No e → Reached.No e ≡ in_whole x
in_whole_no x e h = rw h

-- a step of the whole tree
pub whole_run : (b : List ℕ) (q : Search) (r : PartStep) (t : Step) (whole : Run) →
    t ≡ record { reached = in_whole r.found; from = r.from; level = r.level; path = r.path; nodes = r.nodes } → Makes b q r end whole → Begins b q t whole
unfolding run_at part_run
whole_run b q r t whole e h = rw e (record { run = of r.found ∙ h.run; there = at r.found h.there })
  where
    of : (x : InPart) → reached_run b q (in_whole x) r.from r.nodes (left b q r.path r.level r.nodes)
        ≡ part_then b q x r.from r.nodes (left b q r.path r.level r.nodes) (end r.nodes)
    of (At y) = refl
    of Passed = refl
    of End = refl
    of (No w) = refl

    at : (x : InPart) → ((m : Node) → x ≡ At m → in_node b q m r.from ≡ leaf.Passed → ⊥) → in_step b q (in_whole x) r.from ≡ leaf.Passed → ⊥
    at (At y) g = g y refl
    at Passed g = λ z. let y : ◌≡◌ {A = ℕ} 0 1 = cc in omega arith
    at End g = λ z. let y : ◌≡◌ {A = ℕ} 0 1 = cc in omega arith
    at (No w) g = λ z. let y : ◌≡◌ {A = ℕ} 0 1 = cc in omega arith

-- the levels from a leaf's up
module _ (b : List ℕ) (q : Search) (c : Path) (l s : ℕ) (whole : Run) (p : left b q c l s ≡ whole) where
  pub left_done : top_of q ≤ l → end s ≡ whole
  unfolding left levels
  left_done h = let n : top_of q - l ≡ 0 = omega arith in rw n at p

  module _ (k : Mark) (h : l < top_of q) (g : k ≡ mark_of c (l + 1)) (x : Answer Node) (e : x ≡ node_on b q (l + 1) k.block) where
    level_goes : go_on b q (l + 1) x k.next (left b q c (l + 1)) s ≡ whole
    unfolding left levels
    level_goes =
        let n : top_of q - l ≡ suc (top_of q - (l + 1)) = omega arith in
        rw (e, g) (rw n at p)

    pub level_no : (w : Refusal) → x ≡ Err w → refused w s ≡ whole
    level_no w d = rw d at level_goes

    module _ (m : Node) (d : x ≡ Ok m) where
      pub level_known : Known b q (l + 1) m
      level_known = known_again b q (l + 1) k.block m (sym e ∙ d)

      module _ (r : PartStep) (y : Makes b q r (left b q c (l + 1)) (walk b q (l + 1) m k.next (left b q c (l + 1)) s)) where
        level_came : Makes b q r (left b q c (l + 1)) whole
        level_came = record { run = y.run ∙ (rw d at level_goes); there = y.there }

        pub level_passed : r.found ≡ Passed → left b q c (l + 1) r.nodes ≡ whole
        level_passed z = passed b q r _ whole level_came z

        pub level_kept : (j : Tail) → Final r.found → Makes b q r j whole
        level_kept j z = kept b q r _ whole level_came j z

-- above the root nothing is left
pub from_root : (b : List ℕ) (q : Search) (s : ℕ) (c : Path) (r : PartStep) (n : ℕ) → q.root.level ≤ 32 → n ≡ ticked s →
    Makes b q r (left b q c q.root.level) (walk b q q.root.level q.root 0 (left b q c q.root.level) n) → Makes b q r end (scan_of b q s)
unfolding left levels
from_root b q s c r n h t e =
    let j : top_of q - q.root.level ≡ 0 = omega arith in
    let f = rw j at e in
    record { run = root_low b q s n _ h t f.run; there = f.there }

pub ruleset final = (rules, final_at, final_end, final_no)

pub ruleset made = (made_passed, made_end, made_no)

-- the first record of a leaf, by what was reached
module _ (b : List ℕ) (k : Keys) (x : Reached) (i : ℕ) where
  pub in_reached_lem : (m : Node) (z : InLeaf) → x ≡ Reached.Leaf m → z ≡ in_keyed b k m i → z ≡ in_reached b k x i
  in_reached_lem m z e h = rw e h

  pub in_ended : x ≡ Reached.End → leaf.End ≡ in_reached b k x i
  in_ended e = rw e

  pub in_refused : (w : Refusal) → x ≡ Reached.No w → leaf.No w ≡ in_reached b k x i
  in_refused w e = rw e

pub ruleset reached = (rules, in_reached_lem, in_ended, in_refused)

-- the entry after a record is not the first
pub after_some : (b : List ℕ) (q : Search) (m : Node) (i : ℕ) (x : InLeaf) (p : Place) (a : ℕ) → x ≡ in_node b q m i → x ≡ leaf.At p a → 0 < a
after_some b q m i x p a t e = omega (arith, in_bound b q m i p a (sym t ∙ e))

-- the node of a level, as it is read
module _ (b : List ℕ) (q : Search) (level block : ℕ) where
  pub on_root : level ≡ q.root.level → Ok q.root ≡ node_on b q level block
  unfolding node_on
  on_root e = same _ _ _ _ _ e refl

  pub on_block : (u : List ℕ) (z : Answer Node) → (level ≡ q.root.level → ⊥) → u ≡ block_of q.keys.reader b block → z ≡ node_of block u → z ≡ node_on b q level block
  unfolding node_on
  on_block u z n e h = other _ _ _ _ _ n (rw e at h)
