-- Every place that was held can be held, and leads to the same bytes: an entry lies in its block, and what lies in a block shorter than 2^32 bytes has
-- offsets and lengths of 32 bits.
use Prim.Native.Nat.{ℕ, ◌+◌, ◌-◌, ◌^◌, ◌≤◌}
use mathlib.Core.Path.{◌≡◌, refl, sym}
use mathlib.Core.List.{List}
use native.Mathlib.Decide.{ℕ_discrete}
use native.Mathlib.Omega.{arith}
use lib.ListN.{length, length-take}
use Rattle.error.specs.Answer.{Answer, Ok, Err, ◌>>=◌, if_eq}
use Rattle.error.specs.declared.Refusal.TheVariants.{Corrupt}
use Rattle.error.proofs.Laws.{bound, same, other, le_cases, eq_cases}
use Rattle.byte_fields.specs.Part.{part_of, span_at}
use Rattle.byte_fields.specs.declared.Span.{Span}
use Rattle.obj.specs.Block.{block_of}
use Rattle.obj.specs.declared.reader.Reader.{Reader}
use Rattle.node.specs.Entry.{row_at, with_value, key_value_at}
use Rattle.node.specs.declared.layout.Node.{Node}
use Rattle.node.specs.declared.layout.Info.{Info}
use Rattle.node.specs.declared.table.KeyValue.{KeyValue}
use Rattle.node.specs.declared.table.Row.{Row}
use Rattle.node.specs.Place.{key_span, value_span, placed_value, no_part, place_with, place_of, place_at, SpanLies, ValueLies, Inside, Small}
use Rattle.node.specs.Holds.{Holds}
use Rattle.node.specs.declared.place.Place.{Place}
use Rattle.std.specs.Prelude.{None, Option, Some}

never : {A B : Type 0} (x : A) → ◌≡◌ {A = Answer A} (Err Corrupt) (Ok x) → B
never x e = absurd (let z : ◌≡◌ {A = ℕ} 0 1 = cc in omega arith)

span_inside : (size off len : ℕ) (s : Span) → span_at Corrupt size off len ≡ Ok s → SpanLies size s
unfolding span_at
span_inside size off len s =
    le_cases (λ (a : Answer Span). a ≡ Ok s → SpanLies size s)
    (λ h e. let q : record { start = off; len = len } ≡ s = cc in rw (← q) h)
    (λ h e. never s e)

module _ (b : List ℕ) (m : Node) (info : Info) where
  value_inside : (key : Span) (w : Row) (e : KeyValue) → SpanLies (length b) key → with_value b m key w ≡ Ok e → Inside (length b) e
  unfolding with_value
  value_inside key w e h =
      eq_cases (λ (a : Answer KeyValue). a ≡ Ok e → Inside (length b) e)
      (λ k p. let q : record { key = key; value = None } ≡ e = cc in rw (← q) (record { key_in = h; value_in = tt }))
      (λ k. le_cases (λ (a : Answer KeyValue). a ≡ Ok e → Inside (length b) e)
      (λ l p.
      let x = bound (span_at Corrupt (length b) (m.vals - w.val_off) w.val_len) (λ v. Ok (record { key = key; value = Some v })) e p in
      let q : record { key = key; value = Some x.0 } ≡ e = (let y : ◌≡◌ {A = Answer _} (Ok (record { key = key; value = Some x.0 })) (Ok e) = x.1.1 in cc) in
      rw (← q) (record { key_in = h; value_in = span_inside (length b) _ _ x.0 x.1.0 }))
      (λ l p. never e p))

  -- an entry that was read lies in its block
  pub entry_inside : (i : ℕ) (e : KeyValue) → key_value_at b m info i ≡ Ok e → Inside (length b) e
  unfolding key_value_at
  entry_inside i e =
      le_cases (λ (a : Answer KeyValue). a ≡ Ok e → Inside (length b) e)
      (λ h p. never e p)
      (λ h p.
      let x = bound (row_at b m info i) (λ w. span_at Corrupt (length b) (m.keys + w.key_off) w.key_len >>= λ key. with_value b m key w) e p in
      let y = bound (span_at Corrupt (length b) (m.keys + x.0.key_off) x.0.key_len) (λ key. with_value b m key x.0) e x.1.1 in
      value_inside y.0 x.0 e (span_inside (length b) _ _ y.0 y.1.0) y.1.1)

-- a block is no longer than its size
pub block_short : (r : Reader) (b : List ℕ) (p : ℕ) → length (block_of r b p) ≤ r.block_size
unfolding block_of part_of
block_short r b p = rw length-take (omega arith)

-- "Every place held before can be held now and leads to the same bytes"
pub held_key : (block : ℕ) (e : KeyValue) → key_span (place_of block e) ≡ e.key
unfolding place_of
held_key block e = of e.value
  where
    of : (v : Option Span) → key_span (place_with block e.key v) ≡ e.key
    of (Some v) = refl
    of None = refl

pub held_block : (block : ℕ) (e : KeyValue) → (place_of block e).block ≡ block
unfolding place_of
held_block block e = of e.value
  where
    of : (v : Option Span) → (place_with block e.key v).block ≡ block
    of (Some v) = refl
    of None = refl

pub held_value : (block : ℕ) (e : KeyValue) → Small e → placed_value (place_of block e) ≡ e.value
unfolding place_of placed_value
held_value block e s = of e.value s.inside.value_in
  where
    of : (v : Option Span) → ValueLies s.size v →
        if_eq (place_with block e.key v).val_off no_part (if_eq (place_with block e.key v).val_len no_part None (Some (value_span (place_with block e.key v)))) (Some (value_span (place_with block e.key v))) ≡ v
    of (Some v) h = by (ℕ_discrete v.start no_part) (ℕ_discrete v.len no_part)
      where
        by : Dec (v.start ≡ no_part) → Dec (v.len ≡ no_part) → if_eq v.start no_part (if_eq v.len no_part None (Some v)) (Some v) ≡ Some v
        by (Dec.yes p) (Dec.yes q) = absurd (omega (arith, h, s.bound))
        by (Dec.yes p) (Dec.no q) = sym (same _ _ _ _ _ p (other _ _ _ _ _ q refl))
        by (Dec.no p) q = sym (other _ _ _ _ _ p refl)
    of None h = sym (same _ _ _ _ _ refl (same _ _ _ _ _ refl refl))

-- a value that is held is the place's own
pub value_held : (p : Place) (v : Span) → placed_value p ≡ Some v → placed_value p ≡ Some (value_span p)
unfolding placed_value
value_held p v =
    eq_cases (λ (x : Option Span). x ≡ Some v → x ≡ Some (value_span p))
    (λ h. eq_cases (λ (x : Option Span). x ≡ Some v → x ≡ Some (value_span p)) (λ k e. absurd (let z : ◌≡◌ {A = ℕ} 0 1 = cc in omega arith)) (λ k e. refl))
    (λ h e. refl)

pub holds : Holds
unfolding place_at
holds = record {
  held = λ r image m info i e h k.
      let b = block_of r image m.block in
      let s : Small e = record { size = length b; bound = omega (arith, block_short r image m.block); inside = entry_inside b m info i e k } in
      (place_of m.block e, rw k, record { block = held_block m.block e; key = held_key m.block e; value = held_value m.block e s });
}
