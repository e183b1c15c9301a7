-- A bookmark that was handed out is taken on the same image, and shows the record's own key and value.
use Prim.Native.Nat.{ℕ, ◌+◌, ◌*◌, ◌^◌, ◌≤◌}
use mathlib.Core.Path.{◌≡◌, refl, sym, ap, subst, ◌∙◌}
use mathlib.Core.List.{List, [], ◌∷◌}
use Rattle.std.specs.Prelude.{Option, None}
use native.Mathlib.Nat.{add-mul, one-mul, mul-one, mul-le-mul_left}
use native.Mathlib.Omega.{arith}
use lib.ListN.{length}
use Rattle.error.specs.Answer.{Answer, Ok}
use Rattle.error.proofs.Laws.{got_is, bound, at_most_lem, same, le_cases}
use Rattle.byte_fields.specs.Number.{little}
use Rattle.byte_fields.specs.declared.Span.{Span}
use Rattle.text.specs.Words.{ascii, bytes, words}
use Rattle.obj.specs.Block.{block_of, object_at}
use Rattle.obj.specs.declared.reader.Reader.{Reader}
use Rattle.node.specs.Place.{key_span, value_span, placed_value, key_of, value_of, ValueLies, Small}
use Rattle.node.specs.declared.place.Place.{Place}
use Rattle.node.specs.declared.table.KeyValue.{KeyValue}
use Rattle.node.proofs.Held.{block_short, held_key, held_block, held_value, value_held}
use Rattle.lookup.specs.declared.counted.Counted.{Counted}
use Rattle.lookup.specs.Counted.{after, from, onto}
use Rattle.lookup.specs.Read.{node_at}
use Rattle.omap.specs.Load.{map_at}
use Rattle.omap.proofs.Depth.{from_got}
use Rattle.btree.specs.Scan.{scan_of, nth}
use Rattle.geometry.specs.BlockZero.{geometry_at}
use Rattle.checkpoints.specs.declared.by_number.Choice.{Choice}
use Rattle.nx.specs.Open.{chosen_of, mapped_of, container_of, open_at}
use Rattle.nx.specs.declared.container.Container.{Container}
use Rattle.nx.proofs.BlockZero.{zero_read}
use Rattle.nx.proofs.Objects.{object_read}
use Rattle.volume.specs.Open.{volume_of_image}
use Rattle.volume.proofs.Transaction.{rooted}
use Rattle.volume.specs.declared.Volume.{Volume}
use Rattle.volume.specs.declared.Which.{Which}
use Rattle.lists.specs.Lists.{search_of}
use Rattle.marks.specs.Mark.{mark_bytes, place_in, part_fits, inside, handed_in}
use Rattle.marks.specs.Record.{record_line}
use Rattle.marks.specs.Texts.{kept, mark_on, mark_counted, mark_text, record_text, marked_counted, marked_text}
use Rattle.marks.specs.Leads.{Leads}
use Rattle.marks.proofs.Kept.{mark_length, mark_back, FieldsFit}
use Rattle.marks.proofs.Within.{Stands, scan_stands}
use Rattle.std.specs.Prelude.{Some}

-- a container that opened
pub record Sized (image : List ℕ) (r : Reader) : Type 0 where
  pub most : length image ≤ 2 ^ 34
  pub low : 4096 ≤ r.block_size
  pub high : r.block_size ≤ 65536

pub opened_sized : (choice : Choice) (image : List ℕ) (c : Container) → (open_at choice image).answer ≡ Ok c → Sized image c.reader
unfolding open_at container_of mapped_of
opened_sized choice image c =
    le_cases (λ (x : Counted Container). x.answer ≡ Ok c → Sized image c.reader)
    (λ h e.
    let g = from_got 0 (geometry_at image) _ c e in
    let s = from_got 0 (chosen_of choice image g.0) _ c g.2 in
    let m = from_got _ (map_at g.0.reader image s.0.omap_oid s.0.xid 0).answer _ c s.2 in
    let q : g.0.reader ≡ c.reader = ap (λ (x : Container). x.reader) (got_is _ c m.2) in
    let z = (zero_read image g.0 g.1).sized.taken in
    let k : Sized image g.0.reader = record { most = h; low = z.0; high = z.1 } in
    rw q at k)
    (λ h e. absurd (let z : ◌≡◌ {A = ℕ} 0 1 = cc in omega arith))

-- a record that a scan gave, on an image with blocks of such a size
module _ (image : List ℕ) (v : Volume) (id kind : ℕ) (z : Sized image v.reader) (p : Place) (t : Stands image (search_of v id kind) p) where
  abbrev r : Reader
  r = v.reader

  abbrev e : KeyValue
  e = t.entry

  abbrev here : List ℕ
  here = block_of r image t.node.block

  block_is : p.block ≡ t.node.block
  block_is = ap (λ (x : Place). x.block) (sym t.is) ∙ held_block t.node.block e

  small : Small e
  small = record { size = length here; bound = omega (arith, block_short r image t.node.block, z.high); inside = t.inside }

  key_is : key_span p ≡ e.key
  key_is = ap key_span (sym t.is) ∙ held_key t.node.block e

  value_is : placed_value p ≡ Some t.value
  value_is = ap placed_value (sym t.is) ∙ (held_value t.node.block e small ∙ t.has)

  own_value : placed_value p ≡ Some (value_span p)
  own_value = value_held p t.value value_is

  key_lies : p.key_off + p.key_len ≤ r.block_size
  key_lies = omega (arith, t.inside.key_in, block_short r image t.node.block, ap (λ (x : Span). x.start) key_is, ap (λ (x : Span). x.len) key_is)

  value_lies : p.val_off + p.val_len ≤ r.block_size
  value_lies =
      let l : t.value.start + t.value.len ≤ length here = subst (ValueLies (length here)) t.has t.inside.value_in in
      let q : Some (value_span p) ≡ Some t.value = sym own_value ∙ value_is in
      let s : value_span p ≡ t.value = cc in
      omega (arith, l, block_short r image t.node.block, ap (λ (x : Span). x.start) s, ap (λ (x : Span). x.len) s)

  block_lies : (p.block + 1) * r.block_size ≤ length image
  unfolding node_at
  block_lies =
      let o = bound (object_at r image t.node.block) _ t.node t.known in
      let i = (object_read r image t.node.block o.0 o.1.0).1.in_image in
      rw (block_is, add-mul, one-mul) i

  under : p.block + 1 ≤ 2 ^ 34
  under =
      let l : (p.block + 1) * 1 ≤ (p.block + 1) * r.block_size = mul-le-mul_left (p.block + 1) (omega (arith, z.low)) in
      omega (arith, rw mul-one at l, block_lies, z.most)

  fields : FieldsFit p
  fields = record {
    block_fits = omega (arith, under);
    key_off_fits = omega (arith, key_lies, z.high);
    key_len_fits = omega (arith, key_lies, z.high);
    val_off_fits = omega (arith, value_lies, z.high);
    val_len_fits = omega (arith, value_lies, z.high);
  }

  pub low : (p.key_off ≤ 65536) × (p.val_off ≤ 65536)
  low = (omega (arith, key_lies, z.high), omega (arith, value_lies, z.high))

  pub read_back : place_in (mark_bytes p) ≡ p
  read_back = mark_back p fields

  taken : inside r.block_size p ≡ Ok p
  unfolding inside
  taken = sym (at_most_lem _ _ _ _ _ key_lies (sym (ap (part_fits r.block_size p) own_value ∙ sym (at_most_lem _ _ _ _ _ value_lies refl))))

  number : little 8 (mark_bytes p) 0 ≡ p.block
  unfolding place_in
  number = ap (λ (x : Place). x.block) read_back

  pub handed : handed_in r image (mark_bytes p) ≡ Ok p
  unfolding handed_in
  handed =
      sym (same _ _ _ _ _ (mark_length p) (at_most_lem _ _ _ _ _ (rw number block_lies) (sym (ap (inside r.block_size) read_back ∙ taken))))

  pub shown_line : record_line (block_of r image p.block) p [] ≡ ascii "(record" (words (bytes (key_of r image p) ∷ bytes (value_of r image p) ∷ []) (ascii ")\n" []))
  unfolding record_line key_of value_of
  shown_line = rw own_value

-- the bookmark of the record that a scan gives
text_of : (image : List ℕ) (w : Which) (id kind place s : ℕ) (v : Volume) (o : Option Place) → volume_of_image image w ≡ after s (Ok v) →
    (nth place (scan_of image (search_of v id kind) s)).answer ≡ Ok o → mark_text image w id kind place ≡ Ok (kept o)
unfolding mark_counted mark_on
text_of image w id kind place s v o e n =
    let x = nth place (scan_of image (search_of v id kind) s) in
    ap (λ (c : Counted Volume). (onto c λ y t. mark_on image y id kind place t).answer) e
    ∙ ap (λ (a : Answer (Option Place)). (from x.nodes a λ y. after x.nodes (Ok (kept y))).answer) n

pub leads : Leads
unfolding marked_counted record_text
leads = record {
  held = λ image w id kind place s v p o n.
      let t = rooted image w v (ap (λ (x : Counted Volume). x.answer) o) in
      let z : Sized image v.reader = rw t.reader at (opened_sized w.checkpoint image t.container t.opened) in
      let x = scan_stands image (search_of v id kind) place s p t.known n in
      record {
        handed_out = text_of image w id kind place s v (Some p) o n;
        long = mark_length p;
        back = read_back image v id kind z p x;
        offsets = low image v id kind z p x;
        handed_back = rw (t.opened, marked_text, t.reader, handed image v id kind z p x) (ap Ok (shown_line image v id kind z p x));
      };
  past = λ image w id kind place s v o n. text_of image w id kind place s v None o n;
}
