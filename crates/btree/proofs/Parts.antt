-- What the code's loops leave of a scan (specs/Inner.antt) is the counted part of the tree (specs/Scan.antt).
use Prim.Native.Nat.{ℕ, zero, suc, ◌+◌, ◌-◌, ◌≤◌, ◌<◌}
use mathlib.Core.Path.{◌≡◌, refl, sym, ap, ◌∙◌}
use mathlib.Core.List.{List, [], ◌∷◌}
use native.Mathlib.Nat.{sub-zero}
use native.Mathlib.Decide.{ℕ_discrete}
use Rattle.error.specs.Answer.{Answer, Ok, Err}
use Rattle.error.specs.declared.Refusal.TheVariants.{Corrupt}
use Rattle.error.proofs.Laws.{at_most_lem, above, same, other}
use Rattle.arith.specs.Checked.{ticked}
use Rattle.node.specs.Node.{leaf_bit}
use Rattle.node.specs.declared.layout.Node.{Node}
use Rattle.lookup.specs.Path.{Through, count_along, counted}
use Rattle.btree.specs.Entries.{Leaf, pass_over, end_scan, record_at, item_at, Act, stop, skip, into, turn_at}
use Rattle.btree.specs.Scan.{Part, through, gives, passed, ended, failed, ◌then◌, along, item_part, leaf_part, act_part, turn_part, index_part, node_part, child_part, tree_part, more, end, refused, Tail, counted_part, scan_of}
use Rattle.btree.specs.Inner.{leaf_then, leaf_from, acting, act, each, node, child, walk}
use Rattle.btree.specs.declared.entries.Search.{Search}

-- a part that another follows
then_counted : (x y : Part) (k : Tail) (s : ℕ) → counted_part (x then y) k s ≡ counted_part x (counted_part y k) s
unfolding counted_part ◌then◌
then_counted (through p x) y k s = then_counted x y k (ticked s)
then_counted (gives p x) y k s = ap (more p s) (then_counted x y k s)
then_counted passed y k s = refl
then_counted ended y k s = refl
then_counted (failed e) y k s = refl

-- a path in front of a part
along_counted : (ps : List ℕ) (x : Part) (k : Tail) (s : ℕ) → counted_part (along ps x) k s ≡ counted_part x k (count_along s ps)
unfolding counted_part along count_along
along_counted [] x k s = refl
along_counted (p ∷ ps) x k s = along_counted ps x k (ticked s)

-- what follows may be put otherwise
tail_counted : (x : Part) (j k : Tail) (s : ℕ) → ((n : ℕ) → j n ≡ k n) → counted_part x j s ≡ counted_part x k s
unfolding counted_part
tail_counted (through p x) j k s h = tail_counted x j k (ticked s) h
tail_counted (gives p x) j k s h = ap (more p s) (tail_counted x j k s h)
tail_counted passed j k s h = h s
tail_counted ended j k s h = refl
tail_counted (failed e) j k s h = refl

item_counted : (a : Answer Leaf) (y : Part) (k : Tail) (s : ℕ) → leaf_then a s (counted_part y k s) ≡ counted_part (item_part a then y) k s
unfolding leaf_then item_part counted_part ◌then◌
item_counted (Ok pass_over) y k s = refl
item_counted (Ok end_scan) y k s = refl
item_counted (Ok (record_at p)) y k s = refl
item_counted (Err e) y k s = refl

module _ (b : List ℕ) (q : Search) where
  leaf_counted : (m : Node) (n i : ℕ) (k : Tail) (s : ℕ) → leaf_from b q m n i s (k s) ≡ counted_part (leaf_part b q m n i) k s
  unfolding leaf_from leaf_part counted_part
  leaf_counted m zero i k s = refl
  leaf_counted m (suc n) i k s = ap (leaf_then (item_at b q m i) s) (leaf_counted m n (i + 1) k s) ∙ item_counted (item_at b q m i) (leaf_part b q m n (i + 1)) k s

  -- an index node, where f is the counted part g of a child
  module _ (f : Node → Tail → Tail) (g : Node → Part) (h : (c : Node) (k : Tail) (s : ℕ) → f c k s ≡ counted_part (g c) k s) where
    acting_counted : (a : Answer Act) (k : Tail) (s : ℕ) → acting f a k s ≡ counted_part (act_part g a) k s
    unfolding act_part counted_part
    acting_counted (Ok stop) k s = refl
    acting_counted (Ok skip) k s = refl
    acting_counted (Ok (into c)) k s = h c k s
    acting_counted (Err e) k s = refl

    act_counted : (t : Through Act) (y : Part) (j k : Tail) (s : ℕ) → ((n : ℕ) → j n ≡ counted_part y k n) → act f (counted s t) j ≡ counted_part (turn_part g t then y) k s
    unfolding act counted turn_part
    act_counted t y j k s e =
        acting_counted t.answer j (count_along s t.path)
        ∙ (tail_counted (act_part g t.answer) j (counted_part y k) (count_along s t.path) e
        ∙ (sym (along_counted t.path (act_part g t.answer) (counted_part y k) s)
        ∙ sym (then_counted (along t.path (act_part g t.answer)) y k s)))

    each_counted : (m : Node) (n i : ℕ) (k : Tail) (s : ℕ) → each f b q m n i k s ≡ counted_part (index_part g b q m n i) k s
    unfolding each index_part counted_part
    each_counted m zero i k s = refl
    each_counted m (suc n) i k s = act_counted (turn_at b q m i) (index_part g b q m n (i + 1)) (each f b q m n (i + 1) k) k s (each_counted m n (i + 1) k)

    node_counted : (m : Node) (k : Tail) (s : ℕ) → node f b q m 0 k s ≡ counted_part (node_part g b q m) k s
    unfolding node node_part
    node_counted m k s = of (ℕ_discrete (leaf_bit m.flags) 1)
      where
        of : Dec (leaf_bit m.flags ≡ 1) → node f b q m 0 k s ≡ counted_part (node_part g b q m) k s
        of (Dec.yes e) =
            sym (ap (λ (x : Tail). x s) (same _ _ _ _ _ e refl))
            ∙ ((rw sub-zero (leaf_counted m m.nkeys 0 k s))
            ∙ ap (λ (x : Part). counted_part x k s) (same _ _ _ _ _ e refl))
        of (Dec.no e) =
            sym (ap (λ (x : Tail). x s) (other _ _ _ _ _ e refl))
            ∙ ((rw sub-zero (each_counted m m.nkeys 0 k s))
            ∙ ap (λ (x : Part). counted_part x k s) (other _ _ _ _ _ e refl))

  child_counted : (n : ℕ) (m : Node) (k : Tail) (s : ℕ) → child b q n m k s ≡ counted_part (child_part b q n m) k s
  unfolding child child_part counted_part
  child_counted zero m k s = refl
  child_counted (suc n) m k s = of (ℕ_discrete m.level n) (node_counted (child b q n) (child_part b q n) (child_counted n) m k s)
    where
      of : Dec (m.level ≡ n) → node (child b q n) b q m 0 k s ≡ counted_part (node_part (child_part b q n) b q m) k s → child b q (suc n) m k s ≡ counted_part (child_part b q (suc n) m) k s
      of (Dec.yes e) h = sym (same _ _ _ _ _ e refl) ∙ (h ∙ ap (λ (x : Part). counted_part x k s) (same _ _ _ _ _ e refl))
      of (Dec.no e) h = sym (other _ _ _ _ _ e refl) ∙ ap (λ (x : Part). counted_part x k s) (other _ _ _ _ _ e refl)

  -- the whole tree
  pub walk_scan : (s : ℕ) → q.root.level ≤ 32 → walk b q q.root.level q.root 0 end (ticked s) ≡ scan_of b q s
  unfolding scan_of tree_part counted_part
  walk_scan s h =
      node_counted (child b q q.root.level) (child_part b q q.root.level) (child_counted q.root.level) q.root end (ticked s)
      ∙ ap (λ (x : Part). counted_part x end s) (at_most_lem _ _ _ _ _ h refl)

  pub high_scan : (s : ℕ) → 32 < q.root.level → refused Corrupt s ≡ scan_of b q s
  unfolding scan_of tree_part counted_part
  high_scan s h = ap (λ (x : Part). counted_part x end s) (above _ _ _ _ _ h refl)
