-- The lines of a node's form, by what is read for them.
use Prim.Native.Nat.{ℕ, ◌^◌, ◌<◌}
use mathlib.Core.Path.{◌≡◌, refl, sym, ap, ◌∙◌}
use mathlib.Core.List.{List, [], ◌++◌}
use borrow.Author.Rules.{rules}
use Rattle.error.specs.Answer.{Answer, Ok, Err}
use Rattle.error.specs.declared.Refusal.{Refusal}
use Rattle.error.proofs.Laws.{same, other}
use Rattle.byte_fields.specs.declared.Span.{Span}
use Rattle.obj.specs.declared.reader.Reader.{Reader}
use Rattle.lookup.specs.declared.counted.Counted.{Counted}
use Rattle.lookup.specs.Counted.{after, onto}
use Rattle.utf8.specs.Text.{lossy}
use Rattle.text.specs.Output.{Output, puts}
use Rattle.text.specs.Words.{ascii, pairs}
use Rattle.text.proofs.Digits.{pairs_append}
use Rattle.text.proofs.Writing.{puts_append}
use Rattle.volume.specs.declared.Volume.{Volume}
use Rattle.records.specs.Attribute.{attribute_name, attribute_bytes}
use Rattle.records.specs.declared.attribute.Attribute.{Attribute}
use Rattle.records.specs.declared.attribute.AttributeData.{AttributeData}
use Rattle.records.specs.declared.attribute.AttributeData.TheVariants.{Embedded, Stream}
use Rattle.records.specs.declared.attribute.StreamData.{StreamData}
use Rattle.inode_record.specs.declared.inode.Inode.{Inode}
use Rattle.files.specs.File.{size_of, read_plain}
use Rattle.inode_record.specs.Inode.{compressed}
use Rattle.streams.specs.Streams.{settled_of, stream_of}
use Rattle.streams.specs.Inner.{run_bytes, stream_bytes}
use Rattle.streams.proofs.Contents.{stream_settled}
use Rattle.contents.specs.Inner.{whole_from}
use Rattle.contents.proofs.Laws.{whole_begun}
use Rattle.btree.specs.Scan.{Run, scan_of}
use Rattle.node.specs.declared.place.Place.{Place}
use Rattle.records.specs.declared.extent.Extent.{Extent}
use Rattle.btree.specs.declared.entries.Search.{Search}
use Rattle.cursor.specs.Left.{run_at, Begins}
use Rattle.cursor.specs.declared.steps.Step.{Step}
use Rattle.records.specs.Extent.{extent_at}
use Rattle.lists.specs.Lists.{search_of}
use Rattle.extents.specs.Extents.{Disk, disk_of}
use Rattle.contents.proofs.Plain.{plain_settled}
use Rattle.links.specs.Link.{contents_by}
use Rattle.lines.specs.Shown.{attribute_shown, form_shown, plain}
use Rattle.lines.specs.Shown as shown
use Rattle.lines.specs.Lines.{attribute_line, contents_line}
use Rattle.lines.specs.Inner.{attribute_head}
use Rattle.lines.proofs.After.{attribute_texts}
use Rattle.text.specs.Output.{output_of}
use Rattle.forms.specs.Course.{Course, writes, readings, attribute_course, data_course}
use Rattle.forms.specs.Inner.{Stand, stand_of, go, reads, stream_course, plain_course}
use Rattle.forms.proofs.Going.{go_writes, read_got, reads_none, stays_no}
use Rattle.forms.proofs.After.{settled_go}

-- a line with contents that are written piece by piece
pub streamed_line : (room : ℕ) (o h x z : Output) (r : Reader) (b : List ℕ) (a : Attribute) (c : List ℕ) → h ≡ puts room (attribute_head a.flags (lossy (attribute_name r b a)) (form_shown a.contents) []) o
    → x ≡ puts room (pairs c []) h → z ≡ puts room (ascii ")\n" []) x → z ≡ puts room (attribute_line (attribute_shown r b a c) []) o
unfolding attribute_shown
streamed_line room o h x z r b a c p q e =
    e ∙ rw (q, p, ← puts_append room (pairs c []) (ascii ")\n" []) _, ← puts_append room (attribute_head a.flags (lossy (attribute_name r b a)) (form_shown a.contents) []) _ o, attribute_texts (attribute_shown r b a c))

data_texts : (c : List ℕ) → (ascii "(data x" []) ++ (pairs c [] ++ (ascii ")\n" [])) ≡ contents_line (plain c) []
unfolding contents_line
data_texts c = ap (λ (t : List ℕ). ascii "(data x" t) (sym (pairs_append c [] (ascii ")\n" [])))

bytes_line : (room : ℕ) (o h x z : Output) (c : List ℕ) → h ≡ puts room (ascii "(data x" []) o → x ≡ puts room (pairs c []) h → z ≡ puts room (ascii ")\n" []) x
    → z ≡ puts room (contents_line (plain c) []) o
bytes_line room o h x z c p q e =
    e ∙ rw (q, p, ← puts_append room (pairs c []) (ascii ")\n" []) _, ← puts_append room (ascii "(data x" []) _ o, data_texts c)

pub file_line : (room : ℕ) (g : Place → Answer Extent) (d : Disk) (r : Run) (i : Inode) (size : ℕ) (o h x z : Output) → size ≡ size_of i → h ≡ puts room (ascii "(data x" []) o
    → x ≡ puts room (pairs (run_bytes g d size 0 r) []) h → z ≡ puts room (ascii ")\n" []) x → z ≡ puts room (contents_line (plain (run_bytes g d (size_of i) 0 r)) []) o
file_line room g d r i size o h x z k p q e =
    bytes_line room o h x z (run_bytes g d size 0 r) p q e ∙ ap (λ (n : ℕ). puts room (contents_line (plain (run_bytes g d n 0 r)) []) o) k

pub packed_line : (room : ℕ) (o z : Output) → z ≡ puts room (ascii "(packed)\n" []) o → z ≡ puts room (contents_line shown.packed []) o
unfolding contents_line
packed_line room o z h = h

-- where a file's extents begin
pub own_extents : (b : List ℕ) (v : Volume) (n m k : ℕ) (t : Step) → n ≡ m → Begins b (search_of v m k) t (scan_of b (search_of v m k) 0) → Begins b (search_of v n k) t (scan_of b (search_of v n k) 0)
own_extents b v n m k t e g = rw e g

pub other_extents : (b : List ℕ) (v : Volume) (n k : ℕ) (q : Search) (t : Step) → q ≡ search_of v n k → Begins b q t (scan_of b q 0) → Begins b (search_of v n k) t (scan_of b (search_of v n k) 0)
other_extents b v n k q t e g = rw e at g

-- after a reading that was settled, the line of what is read
module _ (room : ℕ) (s : Counted (Unit {0})) (p q : Counted ℕ) (l : List ℕ) (k : (m : List ℕ) → stand_of q m ≡ reads s (stand_of p m)) where
  module _ (c : Counted (List ℕ)) (t : List ℕ → List ℕ) (y : List ℕ) (e : c ≡ (onto s λ u n. after n (Ok y))) where
    after_reading : go room (writes (t y)) (stand_of q l) ≡ go room (readings c λ d. writes (t d)) (stand_of p l)
    after_reading = ap (go room (writes (t y))) (k l) ∙ sym (settled_go room c (λ d. writes (t d)) y s (stand_of p l) e)

    line_stopped : (w : Refusal) → q.answer ≡ Err w → stand_of q l ≡ go room (readings c λ d. writes (t d)) (stand_of p l)
    line_stopped w x = stays_no q room (writes (t y)) w l x ∙ after_reading

    line_written : (z : Output) → z ≡ puts room (t y) (output_of q.answer l) → ◌≡◌ {A = Stand} (record { output = z; nodes = q.nodes }) (go room (readings c λ d. writes (t d)) (stand_of p l))
    line_written z h = go_writes room (t y) (stand_of q l) z h ∙ after_reading

  module _ (b : List ℕ) (v : Volume) (a : Attribute) (d : StreamData) (h : s ≡ settled_of b v d.object d.size 0) where
    by_ruling : stream_of b v d.object d.size 0 ≡ (onto s λ u t. after t (Ok (stream_bytes b v d.object d.size 0)))
    by_ruling = stream_settled b v d.object d.size 0 ∙ ap (λ (c : Counted (Unit {0})). onto c λ u t. after t (Ok (stream_bytes b v d.object d.size 0))) (sym h)

    pub stream_stopped : (w : Refusal) → q.answer ≡ Err w → stand_of q l ≡ go room (stream_course b v a d) (stand_of p l)
    unfolding stream_course
    stream_stopped = line_stopped _ (λ c. attribute_line (attribute_shown v.reader b a c) []) _ by_ruling

    pub stream_written : (z : Output) → z ≡ puts room (attribute_line (attribute_shown v.reader b a (stream_bytes b v d.object d.size 0)) []) (output_of q.answer l)
        → ◌≡◌ {A = Stand} (record { output = z; nodes = q.nodes }) (go room (stream_course b v a d) (stand_of p l))
    unfolding stream_course
    stream_written = line_written _ (λ c. attribute_line (attribute_shown v.reader b a c) []) _ by_ruling

  -- the file's extents are those from a step on
  module _ (b : List ℕ) (v : Volume) (i : Inode) (t : Step) (g : Begins b (search_of v i.ids.private_id 8) t (scan_of b (search_of v i.ids.private_id 8) 0))
      (h : s ≡ whole_from b v i (run_at b (search_of v i.ids.private_id 8) t t.from)) where
    whole_ruling : read_plain b v i 0 ≡ (onto s λ u t. after t (Ok (stream_bytes b v i.ids.private_id (size_of i) 0)))
    whole_ruling = plain_settled b v i 0 ∙ ap (λ (c : Counted (Unit {0})). onto c λ u t. after t (Ok (stream_bytes b v i.ids.private_id (size_of i) 0))) (sym (whole_begun b v i 0 (search_of v i.ids.private_id 8) t s refl g h))

    pub plain_stopped : (w : Refusal) → q.answer ≡ Err w → stand_of q l ≡ go room (plain_course b v i) (stand_of p l)
    unfolding plain_course
    plain_stopped = line_stopped _ (λ c. contents_line (plain c) []) _ whole_ruling

    pub plain_written : (z : Output)
        → z ≡ puts room (contents_line (plain (run_bytes (extent_at v.reader b) (disk_of v.reader b) (size_of i) 0 (run_at b (search_of v i.ids.private_id 8) t t.from))) []) (output_of q.answer l)
        → ◌≡◌ {A = Stand} (record { output = z; nodes = q.nodes }) (go room (plain_course b v i) (stand_of p l))
    unfolding plain_course stream_bytes
    plain_written z x = line_written _ (λ c. contents_line (plain c) []) _ whole_ruling z (rw g.run at x)

-- an attribute's line, by where its contents lie
module _ (room : ℕ) (b : List ℕ) (v : Volume) (a : Attribute) (p : Counted ℕ) (l : List ℕ) where
  abbrev written : Counted (List ℕ) → Stand
  written c = go room (readings c λ d. writes (attribute_line (attribute_shown v.reader b a d) [])) (stand_of p l)

  pub embedded_course : (s : Span) (z : Output) → p.nodes < 2 ^ 64 → a.contents ≡ Embedded s → z ≡ puts room (attribute_line (attribute_shown v.reader b a (attribute_bytes v.reader b a.place s)) []) (output_of p.answer l)
      → ◌≡◌ {A = Stand} (record { output = z; nodes = p.nodes }) (go room (attribute_course b v a) (stand_of p l))
  unfolding attribute_course contents_by
  embedded_course s z f q h =
      go_writes room _ (stand_of p l) z h
      ∙ ap (go room (writes _)) (sym (reads_none (attribute_bytes v.reader b a.place s) (stand_of p l) f))
      ∙ sym (read_got (after 0 (Ok (attribute_bytes v.reader b a.place s))) _ room (stand_of p l) _ refl)
      ∙ ap (λ (x : AttributeData). written (contents_by b v a.place x 0)) (sym q)

  pub streamed_course : (d : StreamData) (z : Stand) → a.contents ≡ Stream d → z ≡ go room (stream_course b v a d) (stand_of p l) → z ≡ go room (attribute_course b v a) (stand_of p l)
  unfolding attribute_course contents_by stream_course
  streamed_course d z q h = h ∙ ap (λ (x : AttributeData). written (contents_by b v a.place x 0)) (sym q)

module _ (room : ℕ) (b : List ℕ) (v : Volume) (i : Inode) (p : Counted ℕ) (l : List ℕ) where
  pub data_stopped : (w : Refusal) → p.answer ≡ Err w → stand_of p l ≡ go room (data_course b v i) (stand_of p l)
  data_stopped w e = stays_no p room (data_course b v i) w l e

  pub data_packed : (z : Output) → compressed i ≡ 1 → z ≡ puts room (contents_line shown.packed []) (output_of p.answer l)
      → ◌≡◌ {A = Stand} (record { output = z; nodes = p.nodes }) (go room (data_course b v i) (stand_of p l))
  unfolding data_course
  data_packed z q h = go_writes room _ (stand_of p l) z h ∙ ap (λ (c : Course). go room c (stand_of p l)) (same _ _ _ _ _ q refl)

  pub data_plain : (z : Stand) → (compressed i ≡ 1 → ⊥) → z ≡ go room (plain_course b v i) (stand_of p l) → z ≡ go room (data_course b v i) (stand_of p l)
  unfolding data_course plain_course
  data_plain z q h = h ∙ ap (λ (c : Course). go room c (stand_of p l)) (other _ _ _ _ _ q refl)

pub ruleset all = (rules, streamed_line, packed_line, stream_stopped, stream_written, embedded_course, streamed_course, plain_stopped, plain_written, data_stopped, data_packed, data_plain)
