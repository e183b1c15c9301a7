-- How the call goes on from an attribute, by the form of its contents.
use Prim.Native.Nat.{ℕ}
use mathlib.Core.Path.{◌≡◌, sym, ap, ◌∙◌}
use mathlib.Core.List.{List, []}
use Rattle.error.specs.Answer.{Ok, Err}
use Rattle.error.specs.declared.Refusal.{Refusal}
use Rattle.byte_fields.specs.declared.Span.{Span}
use Rattle.lookup.specs.declared.counted.Counted.{Counted}
use Rattle.lookup.specs.Counted.{after, onto}
use Rattle.volume.specs.declared.Volume.{Volume}
use Rattle.records.specs.Attribute.{attribute_bytes}
use Rattle.records.specs.declared.attribute.Attribute.{Attribute}
use Rattle.records.specs.declared.attribute.AttributeData.{AttributeData}
use Rattle.records.specs.declared.attribute.AttributeData.TheVariants.{Embedded, Stream}
use Rattle.records.specs.declared.attribute.StreamData.{StreamData}
use Rattle.streams.specs.Streams.{settled_of, stream_of}
use Rattle.streams.specs.Inner.{stream_bytes}
use Rattle.streams.proofs.Contents.{stream_settled}
use Rattle.links.specs.Link.{contents_by}
use Rattle.lines.specs.Shown.{attribute_shown}
use Rattle.lines.specs.Lines.{attribute_line}
use Rattle.calls.specs.Filled.{Filled, filled, filled_at, Answered, answered}
use Rattle.calls.proofs.Steps as call
use Rattle.attribute_lines.specs.Attributes.{streamed_of, attribute_of}
use Rattle.extents.specs.Verdict.{Verdict, fine}

module _ (image : List ℕ) (v : Volume) (a : Attribute) (b : List ℕ) (s : ℕ) where
  -- what the call leaves where c are the contents
  abbrev left : Counted (List ℕ) → Answered
  left c = answered (onto c λ x t. after t (Ok (attribute_line (attribute_shown v.reader image a x) []))) b

  pub embedded_got : (p : Span) (z : Filled) → a.contents ≡ Embedded p → z ≡ filled (attribute_line (attribute_shown v.reader image a (attribute_bytes v.reader image a.place p)) []) b
      → record { nodes = s; result = z } ≡ answered (attribute_of image v a s) b
  unfolding attribute_of contents_by
  embedded_got p z q h = call.with_nodes s z _ h ∙ ap (λ (x : AttributeData). left (contents_by image v a.place x s)) (sym q)

  pub streamed_got : (d : StreamData) (z : Answered) → a.contents ≡ Stream d → z ≡ answered (streamed_of image v a d s) b → z ≡ answered (attribute_of image v a s) b
  unfolding attribute_of contents_by streamed_of
  streamed_got d z q h = h ∙ ap (λ (x : AttributeData). left (contents_by image v a.place x s)) (sym q)

  module _ (d : StreamData) (r : Counted (Unit {0})) (p : r ≡ settled_of image v d.object d.size s) where
    -- the contents, by the ruling
    abbrev by : Verdict → Counted (List ℕ)
    by x = onto (after r.nodes x) λ u t. after t (Ok (stream_bytes image v d.object d.size s))

    contents : by r.answer ≡ stream_of image v d.object d.size s
    contents = ap (λ (c : Counted (Unit {0})). onto c λ u t. after t (Ok (stream_bytes image v d.object d.size s))) p ∙ sym (stream_settled image v d.object d.size s)

    pub settled_got : (z : Filled) → r.answer ≡ fine → z ≡ filled (attribute_line (attribute_shown v.reader image a (stream_bytes image v d.object d.size s)) []) b
        → record { nodes = r.nodes; result = z } ≡ answered (streamed_of image v a d s) b
    unfolding streamed_of
    settled_got z q h = call.with_nodes r.nodes z _ h ∙ ap (λ (x : Verdict). left (by x)) (sym q) ∙ ap left contents

    pub settled_refused : (w : Refusal) → r.answer ≡ Err w → record { nodes = r.nodes; result = filled_at (Err w) b } ≡ answered (streamed_of image v a d s) b
    unfolding streamed_of
    settled_refused w q = ap (λ (x : Verdict). left (by x)) (sym q) ∙ ap left contents

pub ruleset onward = (call.elements, embedded_got, streamed_got, settled_got, settled_refused)
