-- A leaf's records one after the other: what is left of a leaf is its first record and what is left behind it.
use Prim.Native.Nat.{ℕ, zero, suc, ◌+◌, ◌-◌, ◌≤◌, ◌<◌}
use mathlib.Core.Path.{◌≡◌, refl, sym, ap, ◌∙◌}
use mathlib.Core.List.{List}
use native.Mathlib.Omega.{arith}
use borrow.Author.Rules.{rules}
use Rattle.error.specs.Answer.{Answer, Ok, Err, ◌>>=◌}
use Rattle.error.specs.declared.Refusal.{Refusal}
use Rattle.node.specs.declared.layout.Node.{Node}
use Rattle.node.specs.declared.layout.Info.{Info}
use Rattle.node.specs.declared.table.KeyValue.{KeyValue}
use Rattle.node.specs.Entry.{key_value_at}
use Rattle.node.specs.Place.{place_of}
use Rattle.node.proofs.Held.{held_block}
use Rattle.byte_fields.specs.Part.{part_of}
use Rattle.btree.specs.Entries.{bytes_of, key_order, by_order, Leaf, pass_over, end_scan, record_at, valued, record_of, item_told, item_in, item_at}
use Rattle.btree.specs.Scan.{Run, more}
use Rattle.btree.specs.Inner.{leaf_then, leaf_from, item_then, in_leaf, in_node, in_then}
use Rattle.btree.specs.declared.entries.Search.{Search}
use Rattle.node.specs.declared.place.Place.{Place}
use Rattle.btree.specs.declared.entries.Item.{Item}
use Rattle.btree.specs.declared.entries.Order.{Order}
use Rattle.btree.specs.declared.entries.Order.TheVariants.{Below, Inside, Above}
use Rattle.btree.specs.declared.entries.Item.TheVariants as item
use Rattle.btree.specs.declared.leaf.InLeaf.{InLeaf}
use Rattle.btree.specs.declared.leaf.InLeaf.TheVariants.{At, Passed, End, No}
use Rattle.std.specs.Prelude.{None, Option, Some}
use Rattle.byte_fields.specs.declared.Span.{Span}

-- the turns of the loop that looks for the first record
module _ (b : List ℕ) (m : Node) (info : Info) (id kind i : ℕ) (whole : InLeaf) (p : in_leaf b m info id kind (m.nkeys - i) i ≡ whole) where
  pub in_done : m.nkeys ≤ i → Passed ≡ whole
  unfolding in_leaf
  in_done h = let n : m.nkeys - i ≡ 0 = omega arith in rw n at p

  module _ (lt : i < m.nkeys) (r : Item) (t : item_told r ≡ item_in b m info id kind i) where
    goes : item_then (item_told r) (i + 1) (in_leaf b m info id kind (m.nkeys - (i + 1)) (i + 1)) ≡ whole
    unfolding in_leaf
    goes = let n : m.nkeys - i ≡ suc (m.nkeys - (i + 1)) = omega arith in rw t (rw n at p)

    pub in_pass : r ≡ item.Pass → in_leaf b m info id kind (m.nkeys - (i + 1)) (i + 1) ≡ whole
    in_pass e = rw e at goes

    pub in_stop : r ≡ item.Stop → End ≡ whole
    in_stop e = rw e at goes

    pub in_at : (x : Place) → r ≡ item.At x → At x (i + 1) ≡ whole
    in_at x e = rw e at goes

    pub in_no : (w : Refusal) → r ≡ item.No w → No w ≡ whole
    in_no w e = rw e at goes

pub ruleset inside = (rules, in_done, in_pass, in_stop, in_at, in_no)

-- the entry after a record lies behind, and within the leaf
module _ (b : List ℕ) (m : Node) (info : Info) (id kind : ℕ) (p : Place) (a : ℕ) where
  bound_step : (n i : ℕ) → suc n ≡ m.nkeys - i → (x : Answer Leaf) (k : InLeaf) → (k ≡ At p a → (i + 1 < a) × (a ≤ m.nkeys)) → item_then x (i + 1) k ≡ At p a → (i < a) × (a ≤ m.nkeys)
  bound_step n i h (Ok pass_over) k e g = (omega (arith, e g), omega (arith, e g))
  bound_step n i h (Ok end_scan) k e g = absurd (let z : ◌≡◌ {A = ℕ} 0 1 = cc in omega arith)
  bound_step n i h (Ok (record_at y)) k e g = let z : i + 1 ≡ a = cc in (omega arith, omega arith)
  bound_step n i h (Err w) k e g = absurd (let z : ◌≡◌ {A = ℕ} 0 1 = cc in omega arith)

  pub bound_in : (n i : ℕ) → n ≡ m.nkeys - i → in_leaf b m info id kind n i ≡ At p a → (i < a) × (a ≤ m.nkeys)
  unfolding in_leaf
  bound_in zero i h e = absurd (let z : ◌≡◌ {A = ℕ} 0 1 = cc in omega arith)
  bound_in (suc n) i h e = bound_step n i h (item_in b m info id kind i) (in_leaf b m info id kind n (i + 1)) (bound_in n (i + 1) (omega arith)) e

-- the first record that an entry, or what comes after it, gives
module _ (b : List ℕ) (q : Search) (m : Node) (n i : ℕ) (h : suc n ≡ m.nkeys - i) where
  abbrev later : InLeaf
  later = in_leaf (bytes_of b q m) m q.keys.info q.keys.id q.keys.kind n (i + 1)

  leaf_step : (s : ℕ) (k : Run) (a : Answer Leaf) → leaf_from b q m n (i + 1) s k ≡ in_then b q m later s k →
      leaf_then a s (leaf_from b q m n (i + 1) s k) ≡ in_then b q m (item_then a (i + 1) later) s k
  unfolding leaf_then
  leaf_step s k (Ok pass_over) e = e
  leaf_step s k (Ok end_scan) e = refl
  leaf_step s k (Ok (record_at p)) e = let j : n ≡ m.nkeys - (i + 1) = omega arith in ap (λ (x : ℕ). more p s (leaf_from b q m x (i + 1) s k)) j
  leaf_step s k (Err w) e = refl

  back_step : (p : Place) (a : ℕ) (x : Answer Leaf) → item_at b q m i ≡ x → (later ≡ At p a → in_node b q m (a - 1) ≡ At p a) → item_then x (i + 1) later ≡ At p a → in_node b q m (a - 1) ≡ At p a
  unfolding in_leaf
  back_step p a (Ok pass_over) t e g = e g
  back_step p a (Ok end_scan) t e g = absurd (let z : ◌≡◌ {A = ℕ} 0 1 = cc in omega arith)
  back_step p a (Ok (record_at y)) t e g =
      let z : i + 1 ≡ a = cc in
      let j : a - 1 ≡ i = omega arith in
      rw (j, ← h, t) g
  back_step p a (Err w) t e g = absurd (let z : ◌≡◌ {A = ℕ} 0 1 = cc in omega arith)

module _ (b : List ℕ) (q : Search) (m : Node) where
  leaf_by : (n i s : ℕ) (k : Run) → n ≡ m.nkeys - i → leaf_from b q m n i s k ≡ in_then b q m (in_leaf (bytes_of b q m) m q.keys.info q.keys.id q.keys.kind n i) s k
  unfolding leaf_from in_leaf
  leaf_by zero i s k h = refl
  leaf_by (suc n) i s k h = leaf_step b q m n i h s k (item_at b q m i) (leaf_by n (i + 1) s k (omega arith))

  back_by : (n i : ℕ) (p : Place) (a : ℕ) → n ≡ m.nkeys - i → in_leaf (bytes_of b q m) m q.keys.info q.keys.id q.keys.kind n i ≡ At p a → in_node b q m (a - 1) ≡ At p a
  unfolding in_leaf
  back_by zero i p a h e = absurd (let z : ◌≡◌ {A = ℕ} 0 1 = cc in omega arith)
  back_by (suc n) i p a h e = back_step b q m n i h p a (item_at b q m i) refl (back_by n (i + 1) p a (omega arith)) e

  pub leaf_in : (i s : ℕ) (k : Run) → leaf_from b q m (m.nkeys - i) i s k ≡ in_then b q m (in_node b q m i) s k
  leaf_in i s k = leaf_by (m.nkeys - i) i s k refl

  pub in_bound : (i : ℕ) (p : Place) (a : ℕ) → in_node b q m i ≡ At p a → (i < a) × (a ≤ m.nkeys)
  in_bound i p a e = bound_in (bytes_of b q m) m q.keys.info q.keys.id q.keys.kind p a (m.nkeys - i) i refl e

  -- looking from the record's own entry finds it again
  pub in_back : (i : ℕ) (p : Place) (a : ℕ) → in_node b q m i ≡ At p a → in_node b q m (a - 1) ≡ At p a
  in_back i p a e = back_by (m.nkeys - i) i p a refl e

  -- so what is left from the record's entry on is what is left
  pub leaf_jump : (i s : ℕ) (k : Run) (p : Place) (a : ℕ) → in_node b q m i ≡ At p a → leaf_from b q m (m.nkeys - (a - 1)) (a - 1) s k ≡ leaf_from b q m (m.nkeys - i) i s k
  leaf_jump i s k p a e = leaf_in (a - 1) s k ∙ (ap (λ (x : InLeaf). in_then b q m x s k) (in_back i p a e ∙ sym e) ∙ sym (leaf_in i s k))

-- a record of a leaf lies in the leaf's block
module _ (b : List ℕ) (m : Node) (info : Info) (id kind : ℕ) (p : Place) where
  of_record : (e : KeyValue) → record_of m e ≡ record_at p → p.block ≡ m.block
  unfolding record_of
  of_record e = of e.value
    where
      of : (v : Option Span) → valued v (place_of m.block e) ≡ record_at p → p.block ≡ m.block
      of (Some v) h = let z : place_of m.block e ≡ p = cc in ap (λ (x : Place). x.block) (sym z) ∙ held_block m.block e
      of None h = absurd (let z : ◌≡◌ {A = ℕ} 0 1 = cc in omega arith)

  of_order : (e : KeyValue) (o : Order) → ◌≡◌ {A = Answer Leaf} (by_order {A = Answer Leaf} o (Ok pass_over) (Ok (record_of m e)) (Ok end_scan)) (Ok (record_at p)) → p.block ≡ m.block
  unfolding by_order
  of_order e Below h = absurd (let z : ◌≡◌ {A = ℕ} 0 1 = cc in omega arith)
  of_order e Inside h = of_record e cc
  of_order e Above h = absurd (let z : ◌≡◌ {A = ℕ} 0 1 = cc in omega arith)

  of_key : (e : KeyValue) (x : Answer Order) → (x >>= λ o. by_order o (Ok pass_over) (Ok (record_of m e)) (Ok end_scan)) ≡ Ok (record_at p) → p.block ≡ m.block
  of_key e (Ok o) h = of_order e o h
  of_key e (Err w) h = absurd (let z : ◌≡◌ {A = ℕ} 0 1 = cc in omega arith)

  of_entry : (x : Answer KeyValue) → (x >>= λ e. key_order id kind (part_of b e.key) >>= λ o. by_order o (Ok pass_over) (Ok (record_of m e)) (Ok end_scan)) ≡ Ok (record_at p) → p.block ≡ m.block
  of_entry (Ok e) h = of_key e (key_order id kind (part_of b e.key)) h
  of_entry (Err w) h = absurd (let z : ◌≡◌ {A = ℕ} 0 1 = cc in omega arith)

  of_item : (x : Answer Leaf) (a j : ℕ) (k : InLeaf) → (x ≡ Ok (record_at p) → p.block ≡ m.block) → (k ≡ At p a → p.block ≡ m.block) → item_then x j k ≡ At p a → p.block ≡ m.block
  of_item (Ok pass_over) a j k g t e = t e
  of_item (Ok end_scan) a j k g t e = absurd (let z : ◌≡◌ {A = ℕ} 0 1 = cc in omega arith)
  of_item (Ok (record_at y)) a j k g t e = g cc
  of_item (Err w) a j k g t e = absurd (let z : ◌≡◌ {A = ℕ} 0 1 = cc in omega arith)

  pub in_block : (n i a : ℕ) → in_leaf b m info id kind n i ≡ At p a → p.block ≡ m.block
  unfolding in_leaf item_in
  in_block zero i a e = absurd (let z : ◌≡◌ {A = ℕ} 0 1 = cc in omega arith)
  in_block (suc n) i a e = of_item (item_in b m info id kind i) a (i + 1) (in_leaf b m info id kind n (i + 1)) (of_entry (key_value_at b m info i)) (in_block n (i + 1) a) e

-- where the block was read as a list s that is u
pub in_of : (s u : List ℕ) (m : Node) (info : Info) (id kind n i : ℕ) (z : InLeaf) → s ≡ u → z ≡ in_leaf s m info id kind n i → z ≡ in_leaf u m info id kind n i
in_of s u m info id kind n i z e h = rw e at h
