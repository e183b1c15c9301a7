-- A scan of the same id and a greater kind goes the way of the scan of the lower kind, as long as it skips no child on it: on every tree.
use Prim.Native.Nat.{ℕ, zero, suc, ◌+◌, ◌-◌, ◌/◌, ◌%◌, ◌^◌, ◌≤◌, ◌<◌}
use mathlib.Core.Path.{◌≡◌, refl, sym, ap, ◌∙◌}
use mathlib.Core.Bool.{Bool, true, false}
use mathlib.Core.List.{List}
use native.Mathlib.Omega.{arith}
use borrow.Author.Rules.{rules}
use Rattle.error.specs.Answer.{Answer, Ok, Err, ◌>>=◌, if_le, if_eq}
use Rattle.error.specs.declared.Refusal.{Refusal}
use Rattle.error.proofs.Laws.{at_most_lem, above, same, other, le_cases, eq_cases, bound}
use Rattle.byte_fields.specs.Number.{number_at}
use Rattle.byte_fields.specs.Part.{part_of}
use Rattle.node.specs.Entry.{key_value_at}
use Rattle.node.specs.declared.layout.Node.{Node}
use Rattle.node.specs.declared.layout.Info.{Info}
use Rattle.node.specs.declared.table.KeyValue.{KeyValue}
use Rattle.btree.specs.Entries.{bytes_of, order_of, key_order, order_in, order_at, by_order, Leaf, pass_over, end_scan, record_at, record_of, item_in, item_at}
use Rattle.btree.specs.Scan.{Run}
use Rattle.btree.specs.Inner.{leaf_then, leaf_from, item_then, in_leaf, in_node, next_then, follow_then, here_then, seek_in, seek_at, kinded, not_below, stays_at}
use Rattle.btree.specs.declared.entries.Search.{Search}
use Rattle.node.specs.declared.place.Place.{Place}
use Rattle.btree.specs.declared.entries.Order.{Order}
use Rattle.btree.specs.declared.entries.Order.TheVariants.{Below, Inside, Above}
use Rattle.btree.specs.declared.leaf.InLeaf.{InLeaf}
use Rattle.btree.specs.declared.leaf.InLeaf.TheVariants as leaf
use Rattle.btree.specs.declared.seek.Seek.{Seek}
use Rattle.btree.specs.declared.seek.Seek.TheVariants.{Over, Stop, At, No}

module _ (id kind k : ℕ) (lt : kind < k) where
  -- what is not above the one is below the other
  order_up : (h : ℕ) → (order_of id kind h ≡ Above → ⊥) → order_of id k h ≡ Below
  unfolding order_of
  order_up h =
      eq_cases P
      (λ e. eq_cases P
      (λ f v. sym (same _ _ _ _ _ e (other _ _ _ _ _ (λ g. omega arith) (at_most_lem _ _ _ _ _ (omega arith) refl))))
      (λ f. le_cases P
      (λ g v. sym (same _ _ _ _ _ e (other _ _ _ _ _ (λ j. omega arith) (at_most_lem _ _ _ _ _ (omega arith) refl))))
      (λ g v. absurd (v refl))))
      (λ e. le_cases P
      (λ g v. sym (other _ _ _ _ _ e (at_most_lem _ _ _ _ _ g refl)))
      (λ g v. absurd (v refl)))
    where
      P : Order → Type 0
      P x = (x ≡ Above → ⊥) → if_eq (h % 2 ^ 60) id (if_eq (h / 2 ^ 60) k Inside (if_le (h / 2 ^ 60) k Below Above)) (if_le (h % 2 ^ 60) id Below Above) ≡ Below

  key_up : (key : List ℕ) (o : Order) → key_order id kind key ≡ Ok o → (o ≡ Above → ⊥) → key_order id k key ≡ Ok Below
  unfolding key_order
  key_up key o e v =
      let t = bound (number_at 8 key 0) (λ h. Ok (order_of id kind h)) o e in
      let z : order_of id kind t.0 ≡ o = cc t.1.1 in
      rw t.1.0 (ap Ok (order_up t.0 (λ a. v (sym z ∙ a))))

  module _ (b : List ℕ) (m : Node) (info : Info) where
    order_in_up : (i : ℕ) (o : Order) → order_in b m info id kind i ≡ Ok o → (o ≡ Above → ⊥) → order_in b m info id k i ≡ Ok Below
    unfolding order_in
    order_in_up i o e v =
        let t = bound (key_value_at b m info i) (λ (x : KeyValue). key_order id kind (part_of b x.key)) o e in
        rw t.1.0 (key_up _ o t.1.1 v)

    entered : (i : ℕ) (y : Seek) (o : Answer Order) → not_below o ≡ true → next_then o i y ≡ At i
    entered i y (Ok Below) z = absurd (let u : ◌≡◌ {A = ℕ} 0 1 = cc in omega arith)
    entered i y (Ok Inside) z = refl
    entered i y (Ok Above) z = refl
    entered i y (Err w) z = absurd (let u : ◌≡◌ {A = ℕ} 0 1 = cc in omega arith)

    -- the same entry is gone into, unless the one behind it is below
    follow_up : (n i j : ℕ) (a : Answer Order) (x y : Seek) → order_in b m info id kind (i + 1) ≡ a → suc n ≡ m.nkeys - i → (x ≡ At j → y ≡ At j) →
        (j ≡ i → i + 1 < m.nkeys → not_below (order_in b m info id k (i + 1)) ≡ true) → follow_then n a i x ≡ At j → follow_then n (order_in b m info id k (i + 1)) i y ≡ At j
    follow_up zero i j a x y t h e f g = g
    follow_up (suc n) i j (Ok Below) x y t h e f g = rw (order_in_up (i + 1) Below t (λ z. let u : ◌≡◌ {A = ℕ} 0 1 = cc in omega arith)) (e g)
    follow_up (suc n) i j (Ok Inside) x y t h e f g = let z : i ≡ j = cc in entered i y (order_in b m info id k (i + 1)) (f (sym z) (omega arith)) ∙ ap At z
    follow_up (suc n) i j (Ok Above) x y t h e f g = let z : i ≡ j = cc in entered i y (order_in b m info id k (i + 1)) (f (sym z) (omega arith)) ∙ ap At z
    follow_up (suc n) i j (Err w) x y t h e f g = absurd (let u : ◌≡◌ {A = ℕ} 0 1 = cc in omega arith)

    here_up : (i j : ℕ) (a : Answer Order) (x y : Seek) → order_in b m info id kind i ≡ a → (x ≡ At j → y ≡ At j) → here_then a x ≡ At j → here_then (order_in b m info id k i) y ≡ At j
    here_up i j (Ok Below) x y t e g = rw (order_in_up i Below t (λ z. let u : ◌≡◌ {A = ℕ} 0 1 = cc in omega arith)) (e g)
    here_up i j (Ok Inside) x y t e g = rw (order_in_up i Inside t (λ z. let u : ◌≡◌ {A = ℕ} 0 1 = cc in omega arith)) (e g)
    here_up i j (Ok Above) x y t e g = absurd (let u : ◌≡◌ {A = ℕ} 0 1 = cc in omega arith)
    here_up i j (Err w) x y t e g = absurd (let u : ◌≡◌ {A = ℕ} 0 1 = cc in omega arith)

    seek_up_by : (n i j : ℕ) → n ≡ m.nkeys - i → (j + 1 < m.nkeys → not_below (order_in b m info id k (j + 1)) ≡ true) → seek_in b m info id kind n i ≡ At j → seek_in b m info id k n i ≡ At j
    unfolding seek_in
    seek_up_by zero i j h f e = absurd (let u : ◌≡◌ {A = ℕ} 0 1 = cc in omega arith)
    seek_up_by (suc n) i j h f e =
        here_up i j (order_in b m info id kind i) _ _ refl
        (follow_up n i j (order_in b m info id kind (i + 1)) _ _ refl h (seek_up_by n (i + 1) j (omega arith) f) (λ z l. rw z at (f (rw z l)))) e

    -- an entry of a leaf that the one passes over, the other passes over; and so the one's record
    ordered_up : (i : ℕ) (x : KeyValue) (o : Order) → key_value_at b m info i ≡ Ok x → key_order id kind (part_of b x.key) ≡ Ok o → (o ≡ Above → ⊥) → item_in b m info id k i ≡ Ok pass_over
    unfolding item_in by_order
    ordered_up i x o t e v = rw (t, key_up (part_of b x.key) o e v)

    above_ends : (o : Order) (x y : Leaf) → by_order {A = Answer Leaf} o (Ok pass_over) (Ok x) (Ok end_scan) ≡ Ok y → o ≡ Above → y ≡ end_scan
    unfolding by_order
    above_ends Below x y e z = absurd (let u : ◌≡◌ {A = ℕ} 0 1 = cc in omega arith)
    above_ends Inside x y e z = absurd (let u : ◌≡◌ {A = ℕ} 0 1 = cc in omega arith)
    above_ends Above x y e z = cc

    item_up : (i : ℕ) (y : Leaf) → item_in b m info id kind i ≡ Ok y → (y ≡ end_scan → ⊥) → item_in b m info id k i ≡ Ok pass_over
    unfolding item_in
    item_up i y e v =
        let t = bound (key_value_at b m info i) _ y e in
        let u = bound (key_order id kind (part_of b t.0.key)) _ y t.1.1 in
        ordered_up i t.0 u.0 t.1.0 u.1.0 (λ z. v (above_ends u.0 _ y u.1.1 z))

module _ (b : List ℕ) (q : Search) (m : Node) (k : ℕ) (lt : q.keys.kind < k) where
  pub seek_up : (i j : ℕ) → stays_at b (kinded q k) m (j + 1) ≡ true → seek_at b q m i ≡ At j → seek_at b (kinded q k) m i ≡ At j
  unfolding stays_at
  seek_up i j f e = seek_up_by q.keys.id q.keys.kind k lt (bytes_of b q m) m q.keys.info (m.nkeys - i) i j refl (λ l. above _ _ _ _ _ l refl ∙ f) e

  -- a leaf from the record of the one on
  module _ (s : ℕ) (t : Run) (p : Place) (a : ℕ) where
    leaf_up_step : (n i : ℕ) (x : Answer Leaf) (y : InLeaf) → suc n ≡ m.nkeys - i → item_at b q m i ≡ x →
        (y ≡ leaf.At p a → leaf_from b (kinded q k) m (m.nkeys - (a - 1)) (a - 1) s t ≡ leaf_from b (kinded q k) m n (i + 1) s t) →
        item_then x (i + 1) y ≡ leaf.At p a → leaf_from b (kinded q k) m (m.nkeys - (a - 1)) (a - 1) s t ≡ leaf_from b (kinded q k) m (suc n) i s t
    unfolding leaf_then leaf_from
    leaf_up_step n i (Ok pass_over) y h g e f =
        let z : item_at b (kinded q k) m i ≡ Ok pass_over = item_up q.keys.id q.keys.kind k lt (bytes_of b q m) m q.keys.info i pass_over g (λ w. let u : ◌≡◌ {A = ℕ} 0 1 = cc in omega arith) in
        e f ∙ rw z
    leaf_up_step n i (Ok end_scan) y h g e f = absurd (let u : ◌≡◌ {A = ℕ} 0 1 = cc in omega arith)
    leaf_up_step n i (Ok (record_at w)) y h g e f =
        let z : i + 1 ≡ a = cc in
        let j : a - 1 ≡ i = omega arith in
        rw (j, ← h)
    leaf_up_step n i (Err w) y h g e f = absurd (let u : ◌≡◌ {A = ℕ} 0 1 = cc in omega arith)

    leaf_up_by : (n i : ℕ) → n ≡ m.nkeys - i → in_leaf (bytes_of b q m) m q.keys.info q.keys.id q.keys.kind n i ≡ leaf.At p a →
        leaf_from b (kinded q k) m (m.nkeys - (a - 1)) (a - 1) s t ≡ leaf_from b (kinded q k) m n i s t
    unfolding in_leaf
    leaf_up_by zero i h e = absurd (let u : ◌≡◌ {A = ℕ} 0 1 = cc in omega arith)
    leaf_up_by (suc n) i h e = leaf_up_step n i (item_at b q m i) _ h refl (leaf_up_by n (i + 1) (omega arith)) e

    pub leaf_up : (i : ℕ) → in_node b q m i ≡ leaf.At p a → leaf_from b (kinded q k) m (m.nkeys - (a - 1)) (a - 1) s t ≡ leaf_from b (kinded q k) m (m.nkeys - i) i s t
    leaf_up i e = leaf_up_by (m.nkeys - i) i refl e

-- whether the entry behind a child is below
module _ (b : List ℕ) (q : Search) (m : Node) (i : ℕ) where
  pub stays_last : m.nkeys ≤ i → true ≡ stays_at b q m i
  unfolding stays_at
  stays_last h = at_most_lem _ _ _ _ _ h refl

  module _ (h : i < m.nkeys) (u : List ℕ) (e : u ≡ bytes_of b q m) (r : Answer Order) (t : r ≡ order_in u m q.keys.info q.keys.id q.keys.kind i) where
    stays_by : not_below r ≡ stays_at b q m i
    unfolding stays_at
    stays_by = above _ _ _ _ _ h (rw (t, e))

    module _ (o : Order) (g : r ≡ Ok o) where
      pub stays_below : o ≡ Below → false ≡ stays_at b q m i
      stays_below f = rw (g, f) at stays_by

      pub stays_inside : o ≡ Inside → true ≡ stays_at b q m i
      stays_inside f = rw (g, f) at stays_by

      pub stays_above : o ≡ Above → true ≡ stays_at b q m i
      stays_above f = rw (g, f) at stays_by

    pub stays_no : (w : Refusal) → r ≡ Err w → false ≡ stays_at b q m i
    stays_no w g = rw g at stays_by

pub ruleset staying = (rules, stays_last, stays_below, stays_inside, stays_above, stays_no)
