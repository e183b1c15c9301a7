-- How a caller's answer goes on from what an entry gives.
use Prim.Native.Nat.{ℕ, ◌≤◌, ◌<◌}
use mathlib.Core.Path.{◌≡◌, refl, sym, ap, ◌∙◌}
use mathlib.Core.List.{List}
use Rattle.error.specs.Answer.{Answer, Ok, Err, ◌>>=◌, if_le}
use Rattle.error.specs.declared.Refusal.{Refusal}
use Rattle.error.proofs.Laws.{at_most_lem, above}
use Rattle.byte_fields.specs.Number as bytes
use Rattle.byte_fields.specs.Part.{part_of}
use Rattle.byte_fields.specs.declared.Span.{Span}
use Rattle.node.specs.Entry.{child_at}
use Rattle.node.specs.Place.{place_of}
use Rattle.node.specs.declared.place.Place.{Place}
use Rattle.node.specs.declared.table.KeyValue.{KeyValue}
use Rattle.node.specs.declared.layout.Node.{Node}
use Rattle.node.specs.declared.layout.Info.{Info}
use Rattle.lookup.specs.declared.counted.Counted.{Counted}
use Rattle.lookup.specs.Counted.{after, onto}
use Rattle.lookup.specs.Path.{Through, at_once, by, on, count_along, counted}
use Rattle.lookup.specs.Read.{node_at}
use Rattle.lookup.specs.Map.{resolve, resolve_at}
use Rattle.lookup.proofs.Laws as lookup-laws
use Rattle.btree.specs.Entries.{key_order, by_order, valued, record_of, pass_over, record_at, Act, into, child_node}
use Rattle.btree.specs.declared.entries.Search.{Search}
use Rattle.btree.specs.declared.entries.Order.{Order}
use Rattle.btree.specs.declared.entries.Order.TheVariants as order
use Rattle.std.specs.Prelude.{None, Option, Some}

pub got_same : {A : Type 0} (a b : A) → a ≡ b → ◌≡◌ {A = Answer _} (Ok a) (Ok b)
got_same a b e = rw e

pub counted_same : {A : Type 0} (s t : ℕ) (a : Answer A) → s ≡ t → after s a ≡ after t a
counted_same s t a e = rw e

-- by how a key stands to what is searched
module _ {A : Type 0} (o : Order) (x y z w : A) where
  pub order_below : o ≡ order.Below → w ≡ x → w ≡ by_order o x y z
  unfolding by_order
  order_below q h = rw q h

  pub order_inside : o ≡ order.Inside → w ≡ y → w ≡ by_order o x y z
  unfolding by_order
  order_inside q h = rw q h

  pub order_above : o ≡ order.Above → w ≡ z → w ≡ by_order o x y z
  unfolding by_order
  order_above q h = rw q h

module _ {B : Type 0} (r : Answer Order) (a : Answer Order) (p : r ≡ a) where
  pub order_step : (f : Order → Answer B) (x : Order) (y : Answer B) → r ≡ Ok x → y ≡ f x → y ≡ (a >>= f)
  order_step f x y q h = rw (← p, q) h

  pub order_stop : (f : Order → Answer B) (e : Refusal) → r ≡ Err e → Err e ≡ (a >>= f)
  order_stop f e q = rw (← p, q)

  pub order_on : (f : Order → Through B) (s : ℕ) (x : Order) (y : Counted B) → r ≡ Ok x → y ≡ counted s (f x) → y ≡ counted s (on a f)
  order_on f s x y q h = rw (← p, q) h

  pub order_off : (f : Order → Through B) (s : ℕ) (e : Refusal) → r ≡ Err e → after s (Err e) ≡ counted s (on a f)
  unfolding counted count_along
  order_off f s e q = rw (← p, q)

module _ {B : Type 0} (r : Answer Node) (a : Answer Node) (p : r ≡ a) (f : Node → Through B) (s : ℕ) where
  pub node_on_lem : (x : Node) (y : Counted B) → r ≡ Ok x → y ≡ counted s (f x) → y ≡ counted s (on a f)
  node_on_lem x y q h = rw (← p, q) h

  pub node_off : (e : Refusal) → r ≡ Err e → after s (Err e) ≡ counted s (on a f)
  unfolding counted count_along
  node_off e q = rw (← p, q)

-- a counted answer, by a test
module _ {A : Type 0} (s : ℕ) (x y : Through A) (w : Counted A) where
  pub counted_most : (a b : ℕ) → a ≤ b → w ≡ counted s x → w ≡ counted s (if_le a b x y)
  counted_most a b h e = e ∙ ap (counted s) (at_most_lem _ _ _ _ _ h refl)

  pub counted_above : (a b : ℕ) → b < a → w ≡ counted s y → w ≡ counted s (if_le a b x y)
  counted_above a b h e = e ∙ ap (counted s) (above _ _ _ _ _ h refl)

module _ {A : Type 0} (s : ℕ) (o : Order) (x y z : Through A) (w : Counted A) where
  pub counted_below : o ≡ order.Below → w ≡ counted s x → w ≡ counted s (by_order o x y z)
  counted_below q e = e ∙ ap (counted s) (order_below o x y z _ q refl)

  pub counted_inside : o ≡ order.Inside → w ≡ counted s y → w ≡ counted s (by_order o x y z)
  counted_inside q e = e ∙ ap (counted s) (order_inside o x y z _ q refl)

  pub counted_over : o ≡ order.Above → w ≡ counted s z → w ≡ counted s (by_order o x y z)
  counted_over q e = e ∙ ap (counted s) (order_above o x y z _ q refl)

-- a child, its name having been looked up
pub child_node_lem : (b : List ℕ) (q : Search) (child s : ℕ) (z : Counted Act) →
    z ≡ (onto (resolve_at q.keys.reader b q.resolve child s) λ p n. counted n (on (node_at q.keys.reader b p) λ c. by p (at_once (Ok (into c))))) → z ≡ counted s (child_node b q child)
unfolding child_node resolve_at
child_node_lem b q child s z e = lookup-laws.counted_then s (resolve q.keys.reader b q.resolve child) _ z e

-- where the key or the child was read in a list s that is u
module _ (s u : List ℕ) (e : s ≡ u) where
  pub order_of_part : (id kind : ℕ) (z : Answer Order) → z ≡ key_order id kind s → z ≡ key_order id kind u
  order_of_part id kind z h = rw e at h

  pub order_step_in : {B : Type 0} (id kind : ℕ) (r : Answer Order) (f : Order → Answer B) (x : Order) (y : Answer B) → r ≡ key_order id kind s → r ≡ Ok x → y ≡ f x → y ≡ (key_order id kind u >>= f)
  order_step_in id kind r f x y p g h = order_step r (key_order id kind u) (rw e at p) f x y g h

  pub order_stop_in : {B : Type 0} (id kind : ℕ) (r : Answer Order) (f : Order → Answer B) (w : Refusal) → r ≡ key_order id kind s → r ≡ Err w → Err w ≡ (key_order id kind u >>= f)
  order_stop_in id kind r f w p g = order_stop r (key_order id kind u) (rw e at p) f w g

  module _ {B : Type 0} (m : Node) (info : Info) (i : ℕ) (r : Answer ℕ) (p : r ≡ child_at s m info i) (f : ℕ → Through B) (n : ℕ) where
    pub child_on_in : (x : ℕ) (y : Counted B) → r ≡ Ok x → y ≡ counted n (f x) → y ≡ counted n (on (child_at u m info i) f)
    child_on_in x y q h = rw (← e, ← p, q) h

    pub child_off_in : (w : Refusal) → r ≡ Err w → after n (Err w) ≡ counted n (on (child_at u m info i) f)
    unfolding counted count_along
    child_off_in w q = rw (← e, ← p, q)

  pub part_in : (x : Span) (z : List ℕ) → z ≡ part_of s x → z ≡ part_of u x
  part_in x z h = rw e at h

module _ (m : Node) (e : KeyValue) where
  pub record_there : (v : Span) (p : Place) → e.value ≡ Some v → p ≡ place_of m.block e → ◌≡◌ {A = Answer _} (Ok (record_at p)) (Ok (record_of m e))
  unfolding record_of
  record_there v p q h = ap (λ (x : Place). Ok (record_at x)) h ∙ ap (λ (x : Option Span). Ok (valued x (place_of m.block e))) (sym q)

  pub record_missing : e.value ≡ None → ◌≡◌ {A = Answer _} (Ok pass_over) (Ok (record_of m e))
  unfolding record_of
  record_missing q = rw q

pub ruleset all = (lookup-laws.all, got_same, counted_same, order_below, order_inside, order_above, order_step, order_stop, order_on, order_off, node_on_lem, node_off, lookup-laws.counted_now, lookup-laws.counted_by, counted_most, counted_above, counted_below, counted_inside, counted_over)

pub ruleset parts = (lookup-laws.parts, order_of_part, order_step_in, order_stop_in, child_on_in, child_off_in, part_in)
