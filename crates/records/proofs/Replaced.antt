-- Of what bytes the number in an attribute counts: of the name's own, which are those that the key has for it, up to the first zero byte. Document
-- 02, request 02.
use Prim.Native.Nat.{ℕ}
use mathlib.Core.Path.{◌≡◌, sym, ap}
use mathlib.Core.List.{List}
use lib.ListN.{length}
use Rattle.error.specs.Answer.{Answer, Ok}
use Rattle.error.specs.declared.Refusal.TheVariants.{Corrupt}
use Rattle.error.proofs.Laws.{got_is, bound, le_cases}
use Rattle.byte_fields.specs.Number.{number_at}
use Rattle.byte_fields.specs.Part.{part_of, span_at, up_to_zero}
use Rattle.byte_fields.specs.declared.Span.{Span}
use Rattle.utf8.specs.Text.{replaced}
use Rattle.obj.specs.declared.reader.Reader.{Reader}
use Rattle.node.specs.Place.{key_of, value_of}
use Rattle.node.specs.declared.place.Place.{Place}
use Rattle.names.specs.Name.{name_of}
use Rattle.names.proofs.Laws.{name_facts}
use Rattle.records.specs.Attribute.{data_in, with_name, attribute_value, attribute_of, attribute_at, attribute_name}
use Rattle.records.specs.declared.attribute.Attribute.{Attribute}
use Rattle.records.specs.declared.attribute.AttributeData.{AttributeData}

-- where a part lies that is there
span_is : (size off len : ℕ) (s : Span) → span_at Corrupt size off len ≡ Ok s → s ≡ record { start = off; len = len }
unfolding span_at
span_is size off len s =
    le_cases (λ (a : Answer Span). a ≡ Ok s → s ≡ record { start = off; len = len }) (λ h e. sym (got_is _ s e)) (λ h e. cc)

module _ (p : Place) (key : List ℕ) (len flags : ℕ) (d : AttributeData) (x : Attribute) (h : with_name p key len flags d ≡ Ok x) where
  named : (s : Span) × ((span_at Corrupt (length key) 10 len ≡ Ok s) × (x.place ≡ p) × (x.name ≡ name_of key s))
  unfolding with_name
  named =
      let a = bound (span_at Corrupt (length key) 10 len) _ x h in
      let q = got_is _ x a.1.1 in
      (a.0, (a.1.0, sym (ap (λ (y : Attribute). y.place) q), sym (ap (λ (y : Attribute). y.name) q)))

pub attribute_named_lem : (r : Reader) (b : List ℕ) (p : Place) (x : Attribute) → attribute_at r b p ≡ Ok x
    → (n : ℕ) × ((number_at 2 (key_of r b p) 8 ≡ Ok n) × (attribute_name r b x ≡ up_to_zero (part_of (key_of r b p) (record { start = 10; len = n }))) × (x.name.replaced ≡ replaced (attribute_name r b x)))
unfolding attribute_at attribute_of attribute_value attribute_name key_of value_of
attribute_named_lem r b p x h =
    let key = key_of r b p in
    let a = bound (number_at 2 key 8) _ x h in
    let c = bound (number_at 2 (value_of r b p) 0) _ x a.1.1 in
    let d = bound (data_in (value_of r b p) c.0) _ x c.1.1 in
    let m = named p key a.0 c.0 d.0 x d.1.1 in
    let q : m.0 ≡ record { start = 10; len = a.0 } = span_is _ _ _ m.0 m.1.0 in
    let f = name_facts (key_of r b x.place) key m.0 x.name (ap (key_of r b) m.1.1) m.1.2 in
    (a.0, (a.1.0, rw q at f.0, f.1))
