-- The way down: what is left at each node on it is the whole scan, of the search and of its greater kinds that go into the same children.
use Prim.Native.Nat.{ℕ, zero, suc, ◌+◌, ◌-◌, ◌≤◌, ◌<◌}
use mathlib.Core.Path.{◌≡◌, refl, sym, ap, ◌∙◌}
use mathlib.Core.Bool.{Bool, true, false, not, cond}
use mathlib.Core.List.{List}
use lib.ListN.{length, set}
use lib.Seq.{get_or-set_same, get_or-set_other}
use native.Mathlib.Omega.{arith}
use borrow.Author.Rules.{rules}
use borrow.Author.Tests.{not-true, not-false}
use Rattle.error.specs.Answer.{Answer, Ok, Err}
use Rattle.error.specs.declared.Refusal.{Refusal}
use Rattle.arith.specs.Checked.{ticked}
use Rattle.node.specs.Node.{leaf_bit}
use Rattle.node.specs.declared.layout.Node.{Node}
use Rattle.btree.specs.Scan.{Run, end, Tail, scan_of}
use Rattle.btree.specs.Inner.{leaf_from, in_node, each, Reaches, child, walk, kinded, stays_at}
use Rattle.btree.specs.declared.entries.Search.{Search}
use Rattle.node.specs.declared.place.Place.{Place}
use Rattle.btree.specs.declared.leaf.InLeaf.{InLeaf}
use Rattle.btree.specs.declared.leaf.InLeaf.TheVariants as leaf
use Rattle.btree.specs.declared.seek.Turn.TheVariants as turn
use Rattle.btree.specs.declared.seek.Turned.{Turned}
use Rattle.btree.proofs.Leaves.{in_back, leaf_jump}
use Rattle.btree.proofs.Higher.{leaf_up}
use Rattle.btree.proofs.Turns.{leaf_passed, leaf_end, leaf_no, each_into, as_leaf, as_index, child_on, root_low}
use Rattle.cursor.specs.Left.{top_of, no_mark, node_on, levels, left, run_at, Begins}
use Rattle.cursor.specs.Inner.{mark_of, with_mark, Known, onward, Makes, in_whole}
use Rattle.cursor.specs.Way.{stay_of, levels_stay, stays_on, record_in, Comes, Leads}
use Rattle.cursor.specs.declared.path.Mark.{Mark}
use Rattle.cursor.specs.declared.path.Path.{Path}
use Rattle.cursor.specs.declared.steps.Reached.{Reached}
use Rattle.cursor.specs.declared.steps.Step.{Step}
use Rattle.cursor.specs.declared.walk.InPart.{InPart}
use Rattle.cursor.specs.declared.walk.PartStep.{PartStep}
use Rattle.cursor.specs.declared.way.Way.{Way}
use Rattle.cursor.proofs.Left.{left_index, known_root, known_child, Final, final, passed, kept, whole_run}

both : (x y : Bool) → cond x y false ≡ true → (x ≡ true) × (y ≡ true)
both true y e = (refl, e)
both false y e = absurd (let z : ◌≡◌ {A = ℕ} 0 1 = cc in omega arith)

-- one search along a path
module _ (b : List ℕ) (q : Search) (s : ℕ) where
  pub root_comes : (c : Path) (n : ℕ) → q.root.level ≤ 32 → n ≡ ticked s → Comes b q s q.root.level q.root 0 c n
  unfolding left levels
  root_comes c n h t =
      let j : top_of q - q.root.level ≡ 0 = omega arith in
      rw j (root_low b q s n _ h t refl)

  stay_set : (ms : List Mark) (k : Mark) (l n level : ℕ) → l < level → levels_stay b q (set ms l k) n level ≡ levels_stay b q ms n level
  unfolding levels_stay
  stay_set ms k l zero level h = refl
  stay_set ms k l (suc n) level h =
      let j : l < level + 1 = omega arith in
      let d : level ≡ l → ⊥ = λ e. omega arith in
      rw (get_or-set_other ms l level k no_mark d, stay_set ms k l n (level + 1) j)

  -- a node of a level that is gone on from at its i-th entry
  module _ (level : ℕ) (m : Node) (i : ℕ) (c d : Path) (low : level ≤ top_of q) (known : Known b q level m) (size : length c.marks ≡ 33) (p : d ≡ with_mark c level (record { block = m.block; next = i })) (nz : level ≡ 0 → ⊥) where
    stays_put : stays_on b q d (level - 1) ≡ true → (stays_at b q m i ≡ true) × (stays_on b q c level ≡ true)
    unfolding stays_on levels_stay
    stays_put e =
        let j : top_of q - (level - 1) ≡ suc (top_of q - level) = omega arith in
        let t : level - 1 + 1 ≡ level = omega arith in
        let h : level < length c.marks = omega arith in
        let l : level < level + 1 = omega arith in
        both _ _ (rw (p, j, t, get_or-set_same c.marks level (record { block = m.block; next = i }) no_mark h, known, stay_set c.marks (record { block = m.block; next = i }) level (top_of q - level) (level + 1) l) at e)

    child_comes : (x : Node) (n u : ℕ) → (leaf_bit m.flags ≡ 1 → ⊥) → x.level ≡ level - 1 →
        child b q level x (onward b q level m i c) u ≡ each (child b q level) b q m (m.nkeys - 0) 0 (left b q c level) n → Comes b q s level m 0 c n → Comes b q s (level - 1) x 0 d u
    child_comes x n u nl lv e h =
        let f : left b q d (level - 1) ≡ onward b q level m i c = left_index b q level m i c d low known size p nz nl in
        let g : walk b q (level - 1) x 0 (onward b q level m i c) u ≡ child b q level x (onward b q level m i c) u = child_on b q x _ u level _ nz lv refl in
        let k : each (child b q level) b q m (m.nkeys - 0) 0 (left b q c level) n ≡ walk b q level m 0 (left b q c level) n = ap (λ (z : Tail). z n) (as_index (child b q level) b q m 0 (left b q c level) nl) in
        (rw f (g ∙ e)) ∙ (k ∙ h)

  -- a leaf from a later entry on
  leaf_comes : (level : ℕ) (m : Node) (i : ℕ) (c : Path) (n : ℕ) → leaf_bit m.flags ≡ 1 →
      ((k : Run) → leaf_from b q m (m.nkeys - i) i n k ≡ leaf_from b q m (m.nkeys - 0) 0 n k) → Comes b q s level m 0 c n → Comes b q s level m i c n
  leaf_comes level m i c n h e g =
      let f : (j : ℕ) → walk b q level m j (left b q c level) n ≡ leaf_from b q m (m.nkeys - j) j n (left b q c level n) = λ j. sym (ap (λ (z : Tail). z n) (as_leaf (child b q level) b q m j (left b q c level) h)) in
      f i ∙ (e (left b q c level n) ∙ (sym (f 0) ∙ g))

-- the entry of a leaf's first record
module _ (b : List ℕ) (q : Search) (m : Node) (z : InLeaf) (t : z ≡ in_node b q m 0) where
  pub record_at_lem : (p : Place) (a : ℕ) → z ≡ leaf.At p a → a - 1 ≡ record_in (in_node b q m 0)
  record_at_lem p a e = ap record_in (sym e ∙ t)

  pub record_passed : z ≡ leaf.Passed → 0 ≡ record_in (in_node b q m 0)
  record_passed e = ap record_in (sym e ∙ t)

  pub record_end : z ≡ leaf.End → 0 ≡ record_in (in_node b q m 0)
  record_end e = ap record_in (sym e ∙ t)

  pub record_no : (w : Refusal) → z ≡ leaf.No w → 0 ≡ record_in (in_node b q m 0)
  record_no w e = ap record_in (sym e ∙ t)

pub ruleset records = (rules, record_at_lem, record_passed, record_end, record_no)

-- at a node of a level on the way, begun at its first entry
unfoldable pub Led : List ℕ → Search → ℕ → ℕ → Node → Path → ℕ → Type 0
Led b q s level m c n =
    (level ≤ top_of q) × Known b q level m × Comes b q s level m 0 c n
    × ((k : ℕ) → q.keys.kind < k → stays_on b (kinded q k) c level ≡ true → Comes b (kinded q k) s level m 0 c n)

module _ (b : List ℕ) (q : Search) (s : ℕ) where
  pub led_high : (w : Way) → 32 < q.root.level → Leads b q s w
  led_high w h = record { low = λ l. absurd (omega arith); own = λ l. absurd (omega arith); higher = λ k lt l. absurd (omega arith) }

  pub led_root : (c : Path) (n : ℕ) → q.root.level ≤ 32 → n ≡ ticked s → Led b q s q.root.level q.root c n
  unfolding Led
  led_root c n h t = (omega arith, known_root b q, root_comes b q s c n h t, λ k lt e. root_comes b (kinded q k) s c n h t)

  module _ (level : ℕ) (m : Node) (c : Path) (n : ℕ) (l : Led b q s level m c n) where
    pub led_low : level ≤ top_of q
    unfolding Led
    led_low = l.0

    pub led_here : (w : Way) → w ≡ record { node = m; from = 0; level = level; path = c; nodes = n } → Leads b q s w
    unfolding Led
    led_here w e = rw e (record { low = λ h. (l.0, l.1); own = λ h. l.2; higher = λ k lt h f. l.3 k lt f })

    pub led_leaf : (i : ℕ) (w : Way) → leaf_bit m.flags ≡ 1 → i ≡ record_in (in_node b q m 0) → w ≡ record { node = m; from = i; level = level; path = c; nodes = n } → Leads b q s w
    unfolding Led
    led_leaf i w h g e = rw (e, g) (of (in_node b q m 0) refl)
      where
        of : (z : InLeaf) → in_node b q m 0 ≡ z → Leads b q s (record { node = m; from = record_in z; level = level; path = c; nodes = n })
        of (leaf.At p a) f = record {
          low = λ x. (l.0, l.1);
          own = λ x. leaf_comes b q s level m (a - 1) c n h (λ y. leaf_jump b q m 0 n y p a f) l.2;
          higher = λ k lt x d. leaf_comes b (kinded q k) s level m (a - 1) c n h (λ y. leaf_up b q m k lt n y p a 0 f) (l.3 k lt d);
        }
        of leaf.Passed f = record { low = λ x. (l.0, l.1); own = λ x. l.2; higher = λ k lt x d. l.3 k lt d }
        of leaf.End f = record { low = λ x. (l.0, l.1); own = λ x. l.2; higher = λ k lt x d. l.3 k lt d }
        of (leaf.No y) f = record { low = λ x. (l.0, l.1); own = λ x. l.2; higher = λ k lt x d. l.3 k lt d }

    pub led_child : (t : Turned) (x : Node) (k : Mark) (d : Path) → (leaf_bit m.flags ≡ 1 → ⊥) → Reaches b q m 0 n t → t.turn ≡ turn.Into x → (level ≡ 0 → ⊥) → x.level ≡ level - 1 →
        k ≡ record { block = m.block; next = t.next } → (d ≡ with_mark c level k) × (length c.marks ≡ 33) → Led b q s (level - 1) x d t.nodes
    unfolding Led node_on
    led_child t x k d nl r e nz lv g p =
        let f : d ≡ with_mark c level (record { block = m.block; next = t.next }) = p.0 ∙ ap (with_mark c level) g in
        let low : level - 1 < q.root.level = omega (arith, l.0) in
        let near : level - 1 ≤ top_of q = omega (arith, l.0) in (
          near,
          known_child b q (level - 1) x low (r.known x e),
          child_comes b q s level m t.next c d l.0 l.1 p.1 f nz x n t.nodes nl lv (each_into (child b q level) b q m 0 (left b q c level) n _ refl t r x e) l.2,
          λ y lt h.
              let z = stays_put b (kinded q y) s level m t.next c d l.0 l.1 p.1 f nz h in
              child_comes b (kinded q y) s level m t.next c d l.0 l.1 p.1 f nz x n t.nodes nl lv (r.higher x e y lt z.0 (child b (kinded q y) level) (left b (kinded q y) c level)) (l.3 y lt z.1),
        )

-- the levels of a path, one after the other
module _ (b : List ℕ) (q : Search) (top : ℕ) (u : top ≡ top_of q) (c : Path) (l : ℕ) (whole : Bool) (p : stays_on b q c l ≡ whole) where
  pub stays_done : top ≤ l → true ≡ whole
  unfolding stays_on levels_stay
  stays_done h = let n : top_of q - l ≡ 0 = omega arith in rw n at p

  module _ (k : Mark) (h : l < top) (g : k ≡ mark_of c (l + 1)) (x : Answer Node) (e : x ≡ node_on b q (l + 1) k.block) where
    stay_goes : stay_of b q x k.next (stays_on b q c (l + 1)) ≡ whole
    unfolding stays_on levels_stay
    stay_goes =
        let n : top_of q - l ≡ suc (top_of q - (l + 1)) = omega arith in
        rw (e, g) (rw n at p)

    pub stay_unread : (w : Refusal) → x ≡ Err w → false ≡ whole
    stay_unread w d = rw d at stay_goes

    module _ (m : Node) (d : x ≡ Ok m) (z : Bool) (f : z ≡ stays_at b q m k.next) where
      pub stay_on : not z ≡ false → stays_on b q c (l + 1) ≡ whole
      stay_on t = rw (← f, not-false z t) at (rw d at stay_goes)

      pub stay_off : not z ≡ true → false ≡ whole
      stay_off t = rw (← f, not-true z t) at (rw d at stay_goes)

pub ruleset levelling = (rules, stays_done, stay_unread, stay_on, stay_off)

-- the first leaf from a node on
module _ (b : List ℕ) (q : Search) (s : PartStep) (k : Tail) (whole : Run) (p : Makes b q s k whole) (r : Step) where
  pub begun_passed : s.found ≡ InPart.Passed → Begins b q r (k s.nodes) → Begins b q r whole
  begun_passed e h = rw (passed b q s k whole p e) at h

  pub begun_kept : r ≡ record { reached = in_whole s.found; from = s.from; level = s.level; path = s.path; nodes = s.nodes } → Final s.found → Begins b q r whole
  begun_kept e f = whole_run b q s r whole e (kept b q s k whole p end f)

-- the same from a leaf on, by its first record
module _ (b : List ℕ) (q : Search) (w : Way) (r : Step) (x : InLeaf) (t : x ≡ in_node b q w.node w.from) where
  abbrev leaf_run : Run
  leaf_run = leaf_from b q w.node (w.node.nkeys - w.from) w.from w.nodes (left b q w.path w.level w.nodes)

  abbrev step_to : Reached → ℕ → Step
  step_to y i = record { reached = y; from = i; level = w.level; path = w.path; nodes = w.nodes }

  pub begun_at : (p : Place) (a : ℕ) → x ≡ leaf.At p a → r ≡ step_to (Reached.Leaf w.node) (a - 1) → Begins b q r leaf_run
  unfolding run_at
  begun_at p a e h = rw h (record {
    run = leaf_jump b q w.node w.from w.nodes (left b q w.path w.level w.nodes) p a (sym t ∙ e);
    there = λ g. let f : in_node b q w.node (a - 1) ≡ leaf.At p a = in_back b q w.node w.from p a (sym t ∙ e) in let z : ◌≡◌ {A = ℕ} 0 1 = cc in omega arith;
  })

  pub begun_next : x ≡ leaf.Passed → Begins b q r (left b q w.path w.level w.nodes) → Begins b q r leaf_run
  begun_next e h = rw (leaf_passed b q w.node w.from w.nodes _ leaf_run refl x t e) at h

  pub begun_end : x ≡ leaf.End → r ≡ step_to Reached.End 0 → Begins b q r leaf_run
  unfolding run_at
  begun_end e h = rw h (record { run = leaf_end b q w.node w.from w.nodes _ leaf_run refl x t e; there = λ g. let z : ◌≡◌ {A = ℕ} 0 1 = cc in omega arith })

  pub begun_no : (y : Refusal) → x ≡ leaf.No y → r ≡ step_to (Reached.No y) 0 → Begins b q r leaf_run
  unfolding run_at
  begun_no y e h = rw h (record { run = leaf_no b q w.node w.from w.nodes _ leaf_run refl x t y e; there = λ g. let z : ◌≡◌ {A = ℕ} 0 1 = cc in omega arith })

pub ruleset leaf_begun = (rules, begun_at, begun_next, begun_end, begun_no)

pub as_leaf_begun : (b : List ℕ) (q : Search) (w : Way) (r : Step) → leaf_bit w.node.flags ≡ 1 →
    Begins b q r (leaf_from b q w.node (w.node.nkeys - w.from) w.from w.nodes (left b q w.path w.level w.nodes)) →
    Begins b q r (walk b q w.level w.node w.from (left b q w.path w.level) w.nodes)
as_leaf_begun b q w r h e = rw (ap (λ (z : Tail). z w.nodes) (as_leaf (child b q w.level) b q w.node w.from (left b q w.path w.level) h)) at e

-- on the way of a search
module _ (b : List ℕ) (q : Search) (s : ℕ) (w : Way) (l : Leads b q s w) (h : q.root.level ≤ 32) where
  pub leads_low : (w.level ≤ top_of q) × Known b q w.level w.node
  leads_low = l.low h

  pub leads_own : (r : Step) → Begins b q r (walk b q w.level w.node w.from (left b q w.path w.level) w.nodes) → Begins b q r (scan_of b q s)
  leads_own r e = rw (l.own h) at e

  module _ (k : ℕ) (x : Search) (e : x ≡ kinded q k) where
    pub higher_low : (w.level ≤ top_of x) × Known b x w.level w.node
    unfolding node_on
    higher_low = rw e (l.low h)

    pub leads_higher : (r : Step) (z : Bool) → q.keys.kind < k → z ≡ stays_on b x w.path w.level → not z ≡ false →
        Begins b x r (walk b x w.level w.node w.from (left b x w.path w.level) w.nodes) → Begins b (kinded q k) r (scan_of b (kinded q k) s)
    leads_higher r z lt f g d = rw (l.higher k lt h (sym (rw e at f) ∙ not-false z g)) at (rw e at d)

pub kinded_first : (b : List ℕ) (q : Search) (s k : ℕ) (x : Search) (r : Step) → x ≡ kinded q k → Begins b x r (scan_of b x s) → Begins b (kinded q k) r (scan_of b (kinded q k) s)
kinded_first b q s k x r e d = rw e at d
