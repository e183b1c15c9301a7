-- How a caller's loop goes through the records of a scan with `first`, `in_leaf` and `next`.
-- The loop's invariant is "f of what is left ≡ whole", for the caller's f; its measure is `rest`.
use Prim.Native.Nat.{ℕ, suc, ◌+◌, ◌*◌, ◌≤◌, ◌<◌}
use mathlib.Core.Path.{◌≡◌, refl, sym, ap, ◌∙◌}
use mathlib.Core.List.{List}
use native.Mathlib.Omega.{arith}
use Rattle.error.specs.declared.Refusal.{Refusal}
use Rattle.node.specs.declared.layout.Node.{Node}
use Rattle.btree.specs.Scan.{Run, more, end, refused, places, scan_of}
use Rattle.btree.specs.Inner.{in_node, in_then}
use Rattle.btree.specs.declared.entries.Search.{Search}
use Rattle.node.specs.declared.place.Place.{Place}
use Rattle.btree.specs.declared.leaf.InLeaf.{InLeaf}
use Rattle.btree.specs.declared.leaf.InLeaf.TheVariants.{At, Passed, End, No}
use Rattle.btree.proofs.Laws as laws
use Rattle.btree.proofs.Leaves.{leaf_in}
use Rattle.btree.proofs.Places.{size}
use Rattle.cursor.specs.Left.{left, reached_run, run_at, in_step, Begins}
use Rattle.cursor.specs.declared.steps.Reached.{Reached}
use Rattle.cursor.specs.declared.steps.Reached.TheVariants as reached
use Rattle.cursor.specs.declared.steps.Step.{Step}

-- what the first record in a leaf stands for, where k follows the leaf
abbrev reach_then : List ℕ → Search → Reached → InLeaf → ℕ → Run → Run
reach_then b q x (At p a) s k = more p s (reached_run b q x a s k)
reach_then b q x Passed s k = k
reach_then b q x End s k = end s
reach_then b q x (No w) s k = refused w s

reach_in : (b : List ℕ) (q : Search) (x : Reached) (i s : ℕ) (k : Run) → reached_run b q x i s k ≡ reach_then b q x (in_step b q x i) s k
reach_in b q (reached.Leaf m) i s k = leaf_in b q m i s k ∙ of (in_node b q m i)
  where
    of : (y : InLeaf) → in_then b q m y s k ≡ reach_then b q (reached.Leaf m) y s k
    of (At p a) = refl
    of Passed = refl
    of End = refl
    of (No w) = refl
reach_in b q reached.End i s k = refl
reach_in b q (reached.No w) i s k = refl

-- the run, by the first record in the leaf
module _ (b : List ℕ) (q : Search) (s : Step) (i : ℕ) (r : InLeaf) (t : r ≡ in_step b q s.reached i) where
  stands : run_at b q s i ≡ reach_then b q s.reached r s.nodes (left b q s.path s.level s.nodes)
  unfolding run_at
  stands = rw t (reach_in b q s.reached i s.nodes _)

  pub run_at_lem : (p : Place) (a : ℕ) → r ≡ At p a → run_at b q s i ≡ more p s.nodes (run_at b q s a)
  unfolding run_at
  run_at_lem p a e = rw e at stands

  pub run_end : r ≡ End → run_at b q s i ≡ end s.nodes
  run_end e = rw e at stands

  pub run_no : (w : Refusal) → r ≡ No w → run_at b q s i ≡ refused w s.nodes
  run_no w e = rw e at stands

  pub run_passed : r ≡ Passed → run_at b q s i ≡ left b q s.path s.level s.nodes
  run_passed e = rw e at stands

-- the turns of the loop
module _ {A : Type 0} (f : Run → A) (b : List ℕ) (q : Search) (s : Step) (whole : A) where
  pub through_start : (n : ℕ) → Begins b q s (scan_of b q n) → f (scan_of b q n) ≡ whole → f (run_at b q s s.from) ≡ whole
  through_start n e h = rw e.run h

  module _ (i : ℕ) (p : f (run_at b q s i) ≡ whole) (r : InLeaf) (t : r ≡ in_step b q s.reached i) where
    pub through_end : r ≡ End → f (end s.nodes) ≡ whole
    through_end e = ap f (sym (run_end b q s i r t e)) ∙ p

    pub through_no : (w : Refusal) → r ≡ No w → f (refused w s.nodes) ≡ whole
    through_no w e = ap f (sym (run_no b q s i r t w e)) ∙ p

    pub through_at : (x : Place) (a : ℕ) → r ≡ At x a → f (more x s.nodes (run_at b q s a)) ≡ whole
    through_at x a e = ap f (sym (run_at_lem b q s i r t x a e)) ∙ p

    pub through_passed : (n : Step) → r ≡ Passed → Begins b q n (left b q s.path s.level s.nodes) → f (run_at b q n n.from) ≡ whole
    through_passed n e g = ap f (g.run ∙ sym (run_passed b q s i r t e)) ∙ p

-- what is left to do: twice the records, and one where a leaf is to be left first
abbrev pub idle : InLeaf → ℕ
idle (At p a) = 0
idle Passed = 1
idle End = 0
idle (No w) = 0

unfoldable pub rest : List ℕ → Search → Step → ℕ → ℕ
rest b q s i = 2 * size (run_at b q s i) + idle (in_step b q s.reached i)

idle_most : (x : InLeaf) → idle x ≤ 1
idle_most (At p a) = omega arith
idle_most Passed = omega arith
idle_most End = omega arith
idle_most (No w) = omega arith

idle_none : (x : InLeaf) → (x ≡ Passed → ⊥) → idle x ≡ 0
idle_none (At p a) h = refl
idle_none Passed h = absurd (h refl)
idle_none End h = refl
idle_none (No w) h = refl

module _ (b : List ℕ) (q : Search) (s : Step) (i : ℕ) (r : InLeaf) (t : r ≡ in_step b q s.reached i) where
  pub rest_at : (x : Place) (a : ℕ) → r ≡ At x a → rest b q s a < rest b q s i
  unfolding rest places
  rest_at x a e =
      let h : size (run_at b q s i) ≡ suc (size (run_at b q s a)) = rw (run_at_lem b q s i r t x a e) in
      omega (arith, idle_most (in_step b q s.reached a))

  pub rest_passed : (n : Step) → r ≡ Passed → Begins b q n (left b q s.path s.level s.nodes) → rest b q n n.from < rest b q s i
  unfolding rest
  rest_passed n e g =
      let h : run_at b q n n.from ≡ run_at b q s i = g.run ∙ sym (run_passed b q s i r t e) in
      let j : idle (in_step b q s.reached i) ≡ 1 = ap idle (sym t ∙ e) in
      let k : idle (in_step b q n.reached n.from) ≡ 0 = idle_none _ g.there in
      let l : size (run_at b q n n.from) ≡ size (run_at b q s i) = ap size h in
      omega arith

pub ruleset all = (laws.all, through_start, through_end, through_no, through_at, through_passed, rest_at, rest_passed)
