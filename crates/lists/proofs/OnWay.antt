-- An inode, and the lists of its id, on the way down to it.
use Prim.Native.Nat.{ℕ, ◌-◌, ◌≤◌}
use mathlib.Core.Path.{◌≡◌, refl, sym, ap, ◌∙◌}
use mathlib.Core.List.{List}
use Rattle.error.specs.Answer.{Err, Answer}
use Rattle.error.specs.declared.Refusal.{Refusal}
use Rattle.error.specs.declared.Refusal.TheVariants.{NotFound}
use Rattle.lookup.specs.declared.counted.Counted.{Counted}
use Rattle.lookup.specs.Counted.{after, onto}
use Rattle.node.specs.Node.{leaf_bit}
use Rattle.btree.specs.Scan.{Run, more, end, refused, Tail, scan_of, nth}
use Rattle.btree.specs.Inner.{leaf_from, in_node, child, kinded}
use Rattle.btree.specs.declared.entries.Search.{Search}
use Rattle.node.specs.declared.place.Place.{Place}
use Rattle.btree.specs.declared.leaf.InLeaf.{InLeaf}
use Rattle.btree.specs.declared.leaf.InLeaf.TheVariants.{At, Passed, End, No}
use Rattle.btree.proofs.Turns.{leaf_at, as_leaf}
use Rattle.cursor.specs.Left.{left, run_at, in_step, Begins}
use Rattle.cursor.specs.Way.{Leads}
use Rattle.cursor.specs.declared.steps.Step.{Step}
use Rattle.cursor.specs.declared.way.Way.{Way}
use Rattle.cursor.proofs.Through.{run_at_lem, run_end, run_no}
use Rattle.volume.specs.declared.Volume.{Volume}
use Rattle.inode_record.specs.Inode.{inode_at}
use Rattle.inode_record.specs.declared.inode.Inode.{Inode}
use Rattle.records.proofs.Laws as record-laws
use Rattle.lists.specs.Lists.{search_of, inode_met, inode_of}

module _ (b : List ℕ) (v : Volume) (id s : ℕ) (q : Search) (e : q ≡ search_of v id 3) where
  pub leads_from : (w : Way) → Leads b q s w → Leads b (search_of v id 3) s w
  leads_from w l = rw e at l

  pub leads_to : (w : Way) → Leads b (search_of v id 3) s w → Leads b q s w
  leads_to w l = rw e l

  pub begins_kind : (k : ℕ) (r : Step) → Begins b (kinded q k) r (scan_of b (kinded q k) s) → Begins b (search_of v id k) r (scan_of b (search_of v id k) s)
  begins_kind k r h = rw e at h

  -- the first record that a step has
  module _ (t : Step) (g : Begins b q t (scan_of b q s)) (x : InLeaf) (p : x ≡ in_step b q t.reached t.from) where
    found : (r : Run) → run_at b q t t.from ≡ r → (onto (nth 0 r) λ m n. after n (inode_met b v id m)) ≡ inode_of b v id s
    unfolding inode_of
    found r h =
        let k : scan_of b (search_of v id 3) s ≡ r = rw e at (sym g.run ∙ h) in
        rw k

    pub begun_at : (y : Place) (a : ℕ) (w : Answer Inode) → x ≡ At y a → w ≡ inode_at v.reader b y id → after t.nodes w ≡ inode_of b v id s
    unfolding nth
    begun_at y a w h k = ap (after t.nodes) k ∙ found _ (run_at_lem b q t t.from x p y a h)

    pub begun_passed : x ≡ Passed → after t.nodes (Err NotFound) ≡ inode_of b v id s
    begun_passed h = absurd (g.there (sym p ∙ h))

    pub begun_end : x ≡ End → after t.nodes (Err NotFound) ≡ inode_of b v id s
    unfolding nth
    begun_end h = found _ (run_end b q t t.from x p h)

    pub begun_no : (w : Refusal) → x ≡ No w → after t.nodes (Err w) ≡ inode_of b v id s
    unfolding nth
    begun_no w h = found _ (run_no b q t t.from x p w h)

  -- the record at which the way ends
  pub way_at : (w : Way) (x : InLeaf) (y : Place) (a : ℕ) (z : Answer Inode) → Leads b (search_of v id 3) s w → q.root.level ≤ 32 → leaf_bit w.node.flags ≡ 1 →
      x ≡ in_node b q w.node w.from → x ≡ At y a → z ≡ inode_at v.reader b y id → after w.nodes z ≡ inode_of b v id s
  unfolding inode_of nth
  way_at w x y a z l h f p g k =
      let o = (leads_to w l).own h in
      let u : leaf_from b q w.node (w.node.nkeys - w.from) w.from w.nodes (left b q w.path w.level w.nodes) ≡ scan_of b q s
      = ap (λ (t : Tail). t w.nodes) (as_leaf (child b q w.level) b q w.node w.from (left b q w.path w.level) f) ∙ o in
      let m = leaf_at b q w.node w.from w.nodes (left b q w.path w.level w.nodes) (scan_of b q s) u x p y a g in
      ap (after w.nodes) k ∙ rw (← e, ← m)

pub ruleset begun = (record-laws.all, begun_at, begun_passed, begun_end, begun_no)
