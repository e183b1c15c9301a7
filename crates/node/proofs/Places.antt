-- How a caller's answer goes on from a place, and what an entry's place asks for.
use Prim.Native.Nat.{ℕ, ◌+◌, ◌^◌, ◌≤◌, ◌<◌}
use mathlib.Core.Path.{◌≡◌, refl, sym, ap, subst, ◌∙◌}
use mathlib.Core.List.{List}
use native.Mathlib.Omega.{arith}
use mir.Syntax.{w32}
use mir.Val.{Fits}
use borrow.Author.Rules.{rules, Fits-under}
use lib.ListN.{length}
use Rattle.error.specs.Answer.{Answer, Ok, Err, ◌>>=◌}
use Rattle.error.specs.declared.Refusal.{Refusal}
use Rattle.error.proofs.Laws.{same, other, eq_cases}
use Rattle.byte_fields.specs.Part.{part_of}
use Rattle.byte_fields.specs.declared.Span.{Span}
use Rattle.obj.specs.Block.{block_of}
use Rattle.obj.specs.declared.reader.Reader.{Reader}
use Rattle.node.specs.Entry.{key_value_at}
use Rattle.node.specs.declared.layout.Node.{Node}
use Rattle.node.specs.declared.layout.Info.{Info}
use Rattle.node.specs.declared.table.KeyValue.{KeyValue}
use Rattle.node.specs.declared.place.Place.{Place}
use Rattle.node.specs.Place.{place_of, place_at, key_span, value_span, placed_value, key_of, value_of, ValueLies, Small}
use Rattle.node.proofs.Held.{entry_inside, block_short}
use Rattle.std.specs.Prelude.{None, Option, Some}

module _ (e : KeyValue) (s : Small e) where
  pub key_start : Fits w32 e.key.start
  key_start = Fits-under w32 e.key.start (2 ^ 32) (omega (arith, s.bound, s.inside.key_in)) tt

  pub key_length : Fits w32 e.key.len
  key_length = Fits-under w32 e.key.len (2 ^ 32) (omega (arith, s.bound, s.inside.key_in)) tt

  module _ (v : Span) (q : e.value ≡ Some v) where
    lies : v.start + v.len ≤ s.size
    lies = subst (ValueLies s.size) q s.inside.value_in

    pub value_start : Fits w32 v.start
    value_start = Fits-under w32 v.start (2 ^ 32) (omega (arith, s.bound, lies)) tt

    pub value_length : Fits w32 v.len
    value_length = Fits-under w32 v.len (2 ^ 32) (omega (arith, s.bound, lies)) tt

module _ (block : ℕ) (e : KeyValue) where
  pub placed_at : (v : Span) → e.value ≡ Some v → record { block = block; key_off = e.key.start; key_len = e.key.len; val_off = v.start; val_len = v.len } ≡ place_of block e
  unfolding place_of
  placed_at v q = rw q

  pub placed_missing : e.value ≡ None → record { block = block; key_off = e.key.start; key_len = e.key.len; val_off = 4294967295; val_len = 4294967295 } ≡ place_of block e
  unfolding place_of
  placed_missing q = rw q

-- a block's bytes are fewer than 2^32
pub block_under : (r : Reader) (b : List ℕ) (p : ℕ) (c : List ℕ) → c ≡ block_of r b p → r.block_size < 2 ^ 32 → length c < 2 ^ 32
block_under r b p c k h = rw k (omega (arith, block_short r b p))

-- an entry that was read in fewer bytes
pub small_entry : (c : List ℕ) (m : Node) (info : Info) (i : ℕ) (x : Answer KeyValue) (e : KeyValue) → x ≡ key_value_at c m info i → x ≡ Ok e → length c < 2 ^ 32 → Small e
small_entry c m info i x e p q h = record { size = length c; bound = h; inside = entry_inside c m info i e (sym p ∙ q) }

-- an entry read in the bytes c of the node's block
module _ (r : Reader) (b : List ℕ) (m : Node) (info : Info) (i : ℕ) (c : List ℕ) (k : c ≡ block_of r b m.block) (x : Answer KeyValue) (p : x ≡ key_value_at c m info i) where
  pub placed_got : (e : KeyValue) (z : Place) → x ≡ Ok e → z ≡ place_of m.block e → Ok z ≡ place_at r b m info i
  unfolding place_at
  placed_got e z q h = rw (h, ← k, ← p, q)

  pub placed_no : (w : Refusal) → x ≡ Err w → Err w ≡ place_at r b m info i
  unfolding place_at
  placed_no w q = rw (← k, ← p, q)

-- the value that a place holds
module _ (p : Place) where
  pub holds_none : p.val_off ≡ 4294967295 → p.val_len ≡ 4294967295 → None ≡ placed_value p
  unfolding placed_value
  holds_none h k = same _ _ _ _ _ h (same _ _ _ _ _ k refl)

  module _ (s : Span) (e : s ≡ value_span p) where
    pub holds_off : (p.val_off ≡ 4294967295 → ⊥) → Some s ≡ placed_value p
    unfolding placed_value
    holds_off k = ap Some e ∙ other _ _ _ _ _ k refl

    pub holds_len : (p.val_len ≡ 4294967295 → ⊥) → Some s ≡ placed_value p
    unfolding placed_value
    holds_len k = ap Some e ∙ eq_cases (λ (x : Option Span). Some (value_span p) ≡ x) (λ h. other _ _ _ _ _ k refl) (λ h. refl)

-- bytes at a span that is one of a place
pub part_at : (b : List ℕ) (s t : Span) (z : List ℕ) → s ≡ t → z ≡ part_of b s → z ≡ part_of b t
part_at b s t z e h = rw e at h

module _ (r : Reader) (b : List ℕ) (p : Place) (c : List ℕ) (k : c ≡ block_of r b p.block) where
  pub key_part : (z : List ℕ) → z ≡ part_of c (key_span p) → z ≡ key_of r b p
  unfolding key_of
  key_part z h = rw k at h

  pub value_part : (z : List ℕ) → z ≡ part_of c (value_span p) → z ≡ value_of r b p
  unfolding value_of
  value_part z h = rw k at h

-- what a caller makes of a place that was read
module _ {B : Type 0} (x : Answer Place) (a : Answer Place) (f : Place → Answer B) (p : x ≡ a) where
  pub place_step : (z : Place) (y : Answer B) → x ≡ Ok z → y ≡ f z → y ≡ (a >>= f)
  place_step z y q h = rw (← p, q) h

  pub place_stop : (w : Refusal) → x ≡ Err w → Err w ≡ (a >>= f)
  place_stop w q = rw (← p, q)

pub ruleset making = (rules, key_start, key_length, value_start, value_length, placed_at, placed_missing, block_under, small_entry, placed_got, placed_no)

pub ruleset holding = (rules, holds_none, holds_off, holds_len, part_at, key_part, value_part)

pub ruleset steps = (place_step, place_stop)
