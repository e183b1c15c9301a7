-- How many parts of a link's text are replaced, as they are counted.
use Prim.Native.Nat.{zero-le, ℕ, ◌+◌, ◌^◌, ◌≤◌, ◌<◌}
use mathlib.Core.Path.{◌≡◌, refl, sym, ap, ◌∙◌}
use mathlib.Core.Bool.{true}
use mathlib.Core.List.{List, [], ◌∷◌}
use Rattle.std.specs.Prelude.{Option}
use native.Mathlib.Omega.{arith}
use native.Mathlib.Nat.{zero-add, sub-zero}
use lib.ListN.{length, replicate, length-replicate}
use lib.Seq.{sets}
use Rattle.error.specs.Answer.{Answer, Ok, Err}
use Rattle.error.specs.declared.Refusal.{Refusal}
use Rattle.error.proofs.Laws.{eq_cases}
use Rattle.byte_fields.specs.Part.{up_to_zero}
use Rattle.utf8.specs.Text.{replaced, Reading, reading}
use Rattle.utf8.proofs.Reading.{replaced_most}
use Rattle.text.specs.Output.{at, output_of, puts}
use Rattle.text.proofs.Whole.{fits}
use Rattle.feed.specs.Fed.{written_as}
use Rattle.lookup.specs.declared.counted.Counted.{Counted}
use Rattle.lookup.specs.Counted.{after, onto}
use Rattle.volume.specs.declared.Volume.{Volume}
use Rattle.records.specs.declared.attribute.Attribute.{Attribute}
use Rattle.records.specs.declared.extent.Extent.{Extent}
use Rattle.inode_record.specs.declared.inode.Inode.{Inode}
use Rattle.lists.specs.Lists.{extents_of}
use Rattle.extents.specs.Extents.{disk_of}
use Rattle.streams.specs.Stream.{stream}
use Rattle.streams.specs.Streams.{stream_of, settled_of}
use Rattle.streams.specs.Inner.{stream_bytes}
use Rattle.streams.proofs.Contents.{stream_settled}
use Rattle.streams.proofs.StreamLaws.{stream_length}
use Rattle.links.specs.Named.{attribute_named}
use Rattle.links.specs.Link.{contents_of, target_of, target_in, symlink_name, link_reading, replaced_of}
use Rattle.links.specs.Inner.{counted_in, link_attribute}
use Rattle.links.proofs.Targets.{link_by}
use Rattle.std.specs.Prelude.{None, Some}
use Rattle.extents.specs.Verdict.{fine}

zero_most : (b : List ℕ) → length (up_to_zero b) ≤ length b
unfolding up_to_zero
zero_most [] = zero-le
zero_most (x ∷ b) = eq_cases (λ (r : List ℕ). length r ≤ length (x ∷ b)) (λ e. zero-le) (λ e. omega (arith, zero_most b))

at_told : (p : Answer ℕ) (b c : List ℕ) (n : ℕ) → output_of p c ≡ at b n → p ≡ Ok n
at_told (Ok m) b c n e = let q : m ≡ n = cc in ap Ok q
at_told (Err w) b c n e = absurd (let z : ◌≡◌ {A = ℕ} 0 1 = cc in omega arith)

-- a mark for each part, all of which fit
marks_told : (x o c : List ℕ) (p : Answer ℕ) → output_of p c ≡ puts 18446744073709551615 (written_as true (up_to_zero x)) (at o 0) → length x < 2 ^ 64 → p ≡ Ok (replaced (up_to_zero x))
unfolding written_as
marks_told x o c p h l =
    let n = replaced (up_to_zero x) in
    let k : 0 + length {A = ℕ} (replicate n 0) ≤ 18446744073709551615 = rw length-replicate (omega (arith, replaced_most (up_to_zero x), zero_most x)) in
    let e : 0 + length {A = ℕ} (replicate n 0) ≡ n = rw length-replicate (zero-add n) in
    at_told p (sets o 0 (replicate n 0)) c n (h ∙ fits 18446744073709551615 (replicate n 0) o 0 k ∙ ap (at (sets o 0 (replicate n 0))) e)

-- a stream that is settled has as many bytes as its size says
stream_long : (b : List ℕ) (v : Volume) (object size s : ℕ) (bs : List ℕ) → (stream_of b v object size s).answer ≡ Ok bs → length bs ≡ size
unfolding stream_of stream
stream_long b v object size s bs = of (extents_of b v object s).nodes (extents_of b v object s).answer
  where
    of : (n : ℕ) (a : Answer (List Extent)) → (onto (after n a) λ es t. after t (stream (disk_of v.reader b) size es)).answer ≡ Ok bs → length bs ≡ size
    of n (Ok es) e = stream_length (disk_of v.reader b) (omega arith) size 0 es bs zero-le e ∙ sub-zero size
    of n (Err w) e = absurd (let z : ◌≡◌ {A = ℕ} 0 1 = cc in omega arith)

module _ (b : List ℕ) (v : Volume) (object size s : ℕ) (r : Counted (Unit {0})) (p : r ≡ settled_of b v object size s) where
  pub stream_counted : (q : Answer ℕ) (o c : List ℕ) (n : Answer ℕ) → r.answer ≡ fine → size < 2 ^ 64
      → output_of q c ≡ puts 18446744073709551615 (written_as true (up_to_zero (stream_bytes b v object size s))) (at o 0) → n ≡ q
      → after r.nodes n ≡ counted_in (stream_of b v object size s)
  stream_counted q o c n k l h g =
      let e : stream_of b v object size s ≡ after r.nodes (Ok (stream_bytes b v object size s)) = rw (stream_settled b v object size s, ← p, k) in
      let m : length (stream_bytes b v object size s) < 2 ^ 64 = omega (arith, stream_long b v object size s _ (ap (λ (x : Counted (List ℕ)). x.answer) e)) in
      rw e (ap (λ (a : Answer ℕ). after r.nodes a) (g ∙ marks_told (stream_bytes b v object size s) o c q h m))

  pub stream_uncounted : (w : Refusal) → r.answer ≡ Err w → after r.nodes (Err w) ≡ counted_in (stream_of b v object size s)
  stream_uncounted w k = rw (stream_settled b v object size s, ← p, k)

target_is : (b : List ℕ) (v : Volume) (a : Attribute) (s : ℕ) → replaced_of (target_of b v a s) ≡ counted_in (contents_of b v a s)
unfolding target_of
target_is b v a s = of (contents_of b v a s).nodes (contents_of b v a s).answer
  where
    of : (n : ℕ) (c : Answer (List ℕ)) → replaced_of (onto (after n c) λ x t. after t (Ok (reading (up_to_zero x)))) ≡ counted_in (after n c)
    of n (Ok x) = refl
    of n (Err w) = refl

module _ (b : List ℕ) (v : Volume) (i : Inode) (s : ℕ) (f : Counted Attribute) (p : f ≡ link_attribute b v i s) where
  pub link_counted : (a : Attribute) (z : Counted ℕ) → f.answer ≡ Ok a → z ≡ counted_in (contents_of b v a f.nodes) → z ≡ replaced_of (link_reading b v i s)
  link_counted a z q h = rw (link_by b v i s, ← p, q) (h ∙ sym (target_is b v a f.nodes))

  pub link_uncounted : (w : Refusal) → f.answer ≡ Err w → after f.nodes (Err w) ≡ replaced_of (link_reading b v i s)
  link_uncounted w q = rw (link_by b v i s, ← p, q)

-- the text of a link and its number are of the same bytes: the contents x, up to the first zero byte, of the attribute a of the link's name
pub record Target (b : List ℕ) (v : Volume) (i : Inode) (s : ℕ) (r : Reading) : Type 0 where
  pub a : Attribute
  pub x : List ℕ
  pub found : (attribute_named b v i.id symlink_name s).answer ≡ Ok (Some a)
  pub contents : (contents_of b v a (attribute_named b v i.id symlink_name s).nodes).answer ≡ Ok x
  pub read : r ≡ reading (up_to_zero x)

pub link_replaced : (b : List ℕ) (v : Volume) (i : Inode) (s : ℕ) (r : Reading) → (link_reading b v i s).answer ≡ Ok r → Target b v i s r
unfolding link_reading target_of
link_replaced b v i s r = of (attribute_named b v i.id symlink_name s).answer refl
  where
    n : ℕ
    n = (attribute_named b v i.id symlink_name s).nodes

    told : (a : Attribute) → (attribute_named b v i.id symlink_name s).answer ≡ Ok (Some a) → (m : ℕ) (c : Answer (List ℕ)) → (contents_of b v a n).answer ≡ c
        → (onto (after m c) λ x t. after t (Ok (reading (up_to_zero x)))).answer ≡ Ok r → Target b v i s r
    told a p m (Ok x) q e = record { a = a; x = x; found = p; contents = q; read = let k : r ≡ reading (up_to_zero x) = cc in k }
    told a p m (Err w) q e = absurd (let z : ◌≡◌ {A = ℕ} 0 1 = cc in omega arith)

    of : (o : Answer (Option Attribute)) → (attribute_named b v i.id symlink_name s).answer ≡ o → (onto (after n o) λ y t. target_in b v y t).answer ≡ Ok r → Target b v i s r
    of (Ok (Some a)) p e = told a p (contents_of b v a n).nodes (contents_of b v a n).answer refl e
    of (Ok None) p e = absurd (let z : ◌≡◌ {A = ℕ} 0 1 = cc in omega arith)
    of (Err w) p e = absurd (let z : ◌≡◌ {A = ℕ} 0 1 = cc in omega arith)
