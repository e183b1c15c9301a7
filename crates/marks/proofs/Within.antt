-- Every place that a scan gives is that of an entry, with a value, of a node that was read from the image.
use Prim.Native.Nat.{ℕ, zero, suc, ◌+◌}
use mathlib.Core.Path.{◌≡◌, refl}
use mathlib.Core.List.{List, [], ◌∷◌}
use native.Mathlib.Omega.{arith}
use lib.ListN.{length}
use Rattle.error.specs.Answer.{Answer, Ok, Err}
use Rattle.error.proofs.Laws.{got_is, bound, le_cases, eq_cases}
use Rattle.arith.specs.Checked.{ticked}
use Rattle.byte_fields.specs.Part.{part_of}
use Rattle.byte_fields.specs.declared.Span.{Span}
use Rattle.obj.specs.Block.{block_of}
use Rattle.node.specs.Entry.{key_value_at, child_at}
use Rattle.node.specs.Place.{place_of, Inside}
use Rattle.node.specs.declared.layout.Node.{Node}
use Rattle.node.specs.declared.place.Place.{Place}
use Rattle.node.specs.declared.table.KeyValue.{KeyValue}
use Rattle.node.proofs.Held.{entry_inside}
use Rattle.lookup.specs.Path.{Through, at_once, on}
use Rattle.lookup.specs.Read.{node_at}
use Rattle.btree.specs.Entries.{bytes_of, order_at, key_order, by_order, Leaf, pass_over, end_scan, record_at, valued, record_of, item_in, item_at, Act, stop, skip, into, enter_at, follow_at, turn_at}
use Rattle.btree.specs.Scan.{Part, through, gives, passed, ended, failed, ◌then◌, along, item_part, leaf_part, act_part, turn_part, index_part, node_part, child_part, tree_part, end, counted_part, scan_of, nth}
use Rattle.btree.proofs.Reaching.{child_known}
use Rattle.btree.specs.declared.entries.Order.{Order}
use Rattle.btree.specs.declared.entries.Order.TheVariants as order
use Rattle.btree.specs.declared.entries.Search.{Search}
use Rattle.std.specs.Prelude.{None, Option, Some}

-- what holds of every record of a part
abbrev pub All : (Place → Type 0) → Part → Type 0
All P (through p x) = All P x
All P (gives p x) = P p × All P x
All P passed = Unit {0}
All P ended = Unit {0}
All P (failed e) = Unit {0}

module _ (P : Place → Type 0) where
  all_then : (x y : Part) → All P x → All P y → All P (x then y)
  unfolding ◌then◌
  all_then (through p x) y f g = all_then x y f g
  all_then (gives p x) y f g = (f.0, all_then x y f.1 g)
  all_then passed y f g = g
  all_then ended y f g = tt
  all_then (failed e) y f g = tt

  all_along : (ps : List ℕ) (x : Part) → All P x → All P (along ps x)
  unfolding along
  all_along [] x f = f
  all_along (p ∷ ps) x f = all_along ps x f

  -- so of the one that a scan answers
  pub all_nth : (x : Part) (k s : ℕ) (p : Place) → All P x → (nth k (counted_part x end s)).answer ≡ Ok (Some p) → P p
  unfolding counted_part nth
  all_nth (through y x) k s p f e = all_nth x k (ticked s) p f e
  all_nth (gives y x) zero s p f e = let q : y ≡ p = cc in rw q at f.0
  all_nth (gives y x) (suc k) s p f e = all_nth x k s p f.1 e
  all_nth passed zero s p f e = absurd (let z : ◌≡◌ {A = ℕ} 0 1 = cc in omega arith)
  all_nth passed (suc k) s p f e = absurd (let z : ◌≡◌ {A = ℕ} 0 1 = cc in omega arith)
  all_nth ended zero s p f e = absurd (let z : ◌≡◌ {A = ℕ} 0 1 = cc in omega arith)
  all_nth ended (suc k) s p f e = absurd (let z : ◌≡◌ {A = ℕ} 0 1 = cc in omega arith)
  all_nth (failed w) zero s p f e = absurd (let z : ◌≡◌ {A = ℕ} 0 1 = cc in omega arith)
  all_nth (failed w) (suc k) s p f e = absurd (let z : ◌≡◌ {A = ℕ} 0 1 = cc in omega arith)

module _ (image : List ℕ) (q : Search) where
  abbrev Known : Node → Type 0
  Known m = node_at q.keys.reader image m.block ≡ Ok m

  pub record Stands (p : Place) : Type 0 where
    pub node : Node
    pub entry : KeyValue
    pub value : Span
    pub known : Known node
    pub inside : Inside (length (block_of q.keys.reader image node.block)) entry
    pub has : entry.value ≡ Some value
    pub is : place_of node.block entry ≡ p

  -- an entry of a leaf
  module _ (m : Node) (k : Known m) (i : ℕ) (p : Place) where
    of_order : (e : KeyValue) (o : Order) → by_order {A = Answer Leaf} o (Ok pass_over) (Ok (record_of m e)) (Ok end_scan) ≡ Ok (record_at p) → record_of m e ≡ record_at p
    unfolding by_order
    of_order e order.Below h = absurd (let z : ◌≡◌ {A = ℕ} 0 1 = cc in omega arith)
    of_order e order.Inside h = got_is _ _ h
    of_order e order.Above h = absurd (let z : ◌≡◌ {A = ℕ} 0 1 = cc in omega arith)

    of_record : (e : KeyValue) → record_of m e ≡ record_at p → (v : Span) × (e.value ≡ Some v) × (place_of m.block e ≡ p)
    unfolding record_of
    of_record e = of e.value refl
      where
        of : (x : Option Span) → e.value ≡ x → valued x (place_of m.block e) ≡ record_at p → (v : Span) × (e.value ≡ Some v) × (place_of m.block e ≡ p)
        of (Some v) g h = (v, g, cc)
        of None g h = absurd (let z : ◌≡◌ {A = ℕ} 0 1 = cc in omega arith)

    item_stands : item_at image q m i ≡ Ok (record_at p) → Stands p
    unfolding item_in
    item_stands h =
        let x = bound (key_value_at (bytes_of image q m) m q.keys.info i) _ (record_at p) h in
        let y = bound (key_order q.keys.id q.keys.kind (part_of (bytes_of image q m) x.0.key)) _ (record_at p) x.1.1 in
        let z = of_record x.0 (of_order x.0 y.0 y.1.1) in
        record { node = m; entry = x.0; value = z.0; known = k; inside = entry_inside (bytes_of image q m) m q.keys.info i x.0 x.1.0; has = z.1; is = z.2 }

  abbrev pub Right : Part → Type 0
  Right = All Stands

  leaf_right : (m : Node) → Known m → (n i : ℕ) → Right (leaf_part image q m n i)
  unfolding leaf_part item_part
  leaf_right m k zero i = tt
  leaf_right m k (suc n) i = all_then Stands (item_part (item_at image q m i)) (leaf_part image q m n (i + 1)) (of (item_at image q m i) refl) (leaf_right m k n (i + 1))
    where
      of : (a : Answer Leaf) → item_at image q m i ≡ a → Right (item_part a)
      of (Ok pass_over) e = tt
      of (Ok end_scan) e = tt
      of (Ok (record_at p)) e = (item_stands m k i p e, tt)
      of (Err w) e = tt

  -- a child that is gone into was read
  module _ (c : Node) where
    enter_known : (m : Node) (i : ℕ) → (enter_at image q m i).answer ≡ Ok (into c) → Known c
    unfolding enter_at
    enter_known m i h = child_known image q c (child_at (bytes_of image q m) m q.keys.info i) h

    follow_known : (m : Node) (i : ℕ) → (follow_at image q m i).answer ≡ Ok (into c) → Known c
    unfolding follow_at by_order
    follow_known m i =
        le_cases (λ (t : Through Act). t.answer ≡ Ok (into c) → Known c) (λ l. enter_known m i) (λ l. of (order_at image q m (i + 1)))
      where
        by_order_lem : (o : Order) → (by_order o (at_once (Ok skip)) (enter_at image q m i) (enter_at image q m i)).answer ≡ Ok (into c) → Known c
        by_order_lem order.Below h = absurd (let z : ◌≡◌ {A = ℕ} 0 1 = cc in omega arith)
        by_order_lem order.Inside h = enter_known m i h
        by_order_lem order.Above h = enter_known m i h

        of : (a : Answer Order) → (on a λ o. by_order o (at_once (Ok skip)) (enter_at image q m i) (enter_at image q m i)).answer ≡ Ok (into c) → Known c
        of (Ok o) h = by_order_lem o h
        of (Err w) h = absurd (let z : ◌≡◌ {A = ℕ} 0 1 = cc in omega arith)

    turn_known : (m : Node) (i : ℕ) → (turn_at image q m i).answer ≡ Ok (into c) → Known c
    unfolding turn_at by_order
    turn_known m i = of (order_at image q m i)
      where
        by_order_lem : (o : Order) → (by_order o (follow_at image q m i) (follow_at image q m i) (at_once (Ok stop))).answer ≡ Ok (into c) → Known c
        by_order_lem order.Below h = follow_known m i h
        by_order_lem order.Inside h = follow_known m i h
        by_order_lem order.Above h = absurd (let z : ◌≡◌ {A = ℕ} 0 1 = cc in omega arith)

        of : (a : Answer Order) → (on a λ o. by_order o (follow_at image q m i) (follow_at image q m i) (at_once (Ok stop))).answer ≡ Ok (into c) → Known c
        of (Ok o) h = by_order_lem o h
        of (Err w) h = absurd (let z : ◌≡◌ {A = ℕ} 0 1 = cc in omega arith)

  module _ (f : Node → Part) (g : (c : Node) → Known c → Right (f c)) where
    index_right : (m : Node) (n i : ℕ) → Right (index_part f image q m n i)
    unfolding index_part turn_part act_part
    index_right m zero i = tt
    index_right m (suc n) i =
        all_then Stands (turn_part f (turn_at image q m i)) (index_part f image q m n (i + 1))
        (all_along Stands (turn_at image q m i).path (act_part f (turn_at image q m i).answer) (of (turn_at image q m i).answer refl)) (index_right m n (i + 1))
      where
        of : (a : Answer Act) → (turn_at image q m i).answer ≡ a → Right (act_part f a)
        of (Ok stop) e = tt
        of (Ok skip) e = tt
        of (Ok (into c)) e = g c (turn_known c m i e)
        of (Err w) e = tt

    node_right : (m : Node) → Known m → Right (node_part f image q m)
    unfolding node_part
    node_right m k = eq_cases Right (λ e. leaf_right m k m.nkeys 0) (λ e. index_right m m.nkeys 0)

  child_right : (n : ℕ) (c : Node) → Known c → Right (child_part image q n c)
  unfolding child_part
  child_right zero c k = tt
  child_right (suc n) c k = eq_cases Right (λ e. node_right (child_part image q n) (child_right n) c k) (λ e. tt)

  -- every place that a scan from a root that was read gives
  pub scan_stands : (k s : ℕ) (p : Place) → Known q.root → (nth k (scan_of image q s)).answer ≡ Ok (Some p) → Stands p
  unfolding scan_of tree_part
  scan_stands k s p r e =
      all_nth Stands (tree_part image q) k s p
      (le_cases Right (λ l. node_right (child_part image q q.root.level) (child_right q.root.level) q.root r) (λ l. tt)) e
