-- The pieces of a record's line, one after the other.
use Prim.Native.Nat.{ℕ}
use mathlib.Core.Path.{◌≡◌, refl, ap}
use mathlib.Core.List.{List, [], ◌∷◌, ◌++◌}
use Rattle.std.specs.Prelude.{Option}
use Rattle.text.specs.Output.{Output, puts}
use Rattle.text.specs.Words.{ascii, bytes, bytes?, words}
use Rattle.text.proofs.Digits.{pairs_append}
use Rattle.text.proofs.Writing.{then, then_literal}
use Rattle.byte_fields.specs.Part.{part_of}
use Rattle.byte_fields.specs.declared.Span.{Span}
use Rattle.node.specs.Place.{key_span, placed_value}
use Rattle.node.specs.declared.place.Place.{Place}
use Rattle.marks.specs.Record.{shown, record_line}
use Rattle.std.specs.Prelude.{None, Some}

-- a key and a value, and what follows them
key_append : (k x : List ℕ) → words (bytes k ∷ []) x ≡ words (bytes k ∷ []) [] ++ x
key_append k x = ap (λ (t : List ℕ). 32 ∷ 120 ∷ t) (pairs_append k [] x)

value_append : (v : Option (List ℕ)) (x : List ℕ) → words (bytes? v ∷ []) x ≡ words (bytes? v ∷ []) [] ++ x
value_append None x = refl
value_append (Some b) x = key_append b x

module _ (room : ℕ) (o p z : Output) where
  pub then_key : (k x : List ℕ) → p ≡ puts room (words (bytes k ∷ []) []) o → z ≡ puts room x p → z ≡ puts room (words (bytes k ∷ []) x) o
  then_key k x = then room o p z (words (bytes k ∷ []) []) x _ (key_append k x)

  pub then_value : (v : Option (List ℕ)) (x : List ℕ) → p ≡ puts room (words (bytes? v ∷ []) []) o → z ≡ puts room x p → z ≡ puts room (words (bytes? v ∷ []) x) o
  then_value v x = then room o p z (words (bytes? v ∷ []) []) x _ (value_append v x)

-- a value, by whether there is one
module _ (room : ℕ) (o z : Output) (b : List ℕ) (p : Place) (x : Option Span) (e : x ≡ placed_value p) where
  pub value_there : (v : Span) (d : List ℕ) → x ≡ Some v → d ≡ part_of b v → z ≡ puts room (words (bytes d ∷ []) []) o → z ≡ puts room (words (bytes? (shown b (placed_value p)) ∷ []) []) o
  value_there v d q k h = rw (← e, q, ← k) h

  pub value_gone : x ≡ None → z ≡ puts room (ascii " -" []) o → z ≡ puts room (words (bytes? (shown b (placed_value p)) ∷ []) []) o
  value_gone q h = rw (← e, q) h

-- the line, written in its pieces
pub record_put : (room : ℕ) (b : List ℕ) (p : Place) (o u v w z : Output) (k : List ℕ) → k ≡ part_of b (key_span p) → u ≡ puts room (ascii "(record" []) o → v ≡ puts room (words (bytes k ∷ []) []) u →
    w ≡ puts room (words (bytes? (shown b (placed_value p)) ∷ []) []) v → z ≡ puts room (ascii ")\n" []) w → z ≡ puts room (record_line b p []) o
unfolding record_line
record_put room b p o u v w z k e f g h i = then_literal room o u z (ascii "(record" []) _ f refl (then_key room u v z (part_of b (key_span p)) _ (rw (← e) g) (then_value room v w z (shown b (placed_value p)) _ h i))
