-- An inode that was read has the id that was asked, and no size past 2^64 − 1 in an image of bytes.
use Prim.Native.Nat.{ℕ, zero, suc, ◌+◌, ◌^◌, ◌≤◌, ◌<◌}
use mathlib.Core.Path.{◌≡◌, refl, sym, ap, subst, ◌∙◌}
use mathlib.Core.Logic.{◌⊎◌, inl, inr}
use mathlib.Core.List.{List}
use Rattle.std.specs.Prelude.{Option}
use Rattle.std.specs.Option.{option_or}
use native.Mathlib.Omega.{arith}
use mir.Syntax.{w64}
use lib.ListN.{length, get_or, take, drop, length-take, get_or-eq_default}
use lib.Seq.{get_or-take, get_or-drop}
use Rattle.error.specs.Answer.{Answer, Ok, Err}
use Rattle.error.specs.declared.Refusal.TheVariants.{Corrupt}
use Rattle.error.proofs.Laws.{got_is, le_cases, eq_cases, bound}
use Rattle.byte_fields.specs.Number.{number_at}
use Rattle.byte_fields.specs.Part.{part_of, span_at}
use Rattle.byte_fields.specs.declared.Span.{Span}
use Rattle.byte_fields.proofs.Laws.{read_fits}
use Rattle.obj.specs.Block.{block_of}
use Rattle.lookup.specs.Counted.{after, onto}
use Rattle.node.specs.Place.{value_of}
use Rattle.btree.specs.Scan.{nth, scan_of}
use Rattle.node.specs.declared.place.Place.{Place}
use Rattle.volume.specs.declared.Volume.{Volume}
use Rattle.inode_record.specs.Fields.{stream_field, field_in, merged_of, field_at, fields_from, fields_in}
use Rattle.inode_record.specs.Inode.{ids_in, times_in, owner_in, inode_in, inode_at}
use Rattle.inode_record.specs.declared.fields.Fields.{Fields}
use Rattle.inode_record.specs.declared.inode.Inode.{Inode}
use Rattle.lists.specs.Lists.{search_of, inode_met, inode_of}
use Rattle.files.specs.File.{stream_size, size_of}
use Rattle.extents.proofs.Verdicts.{le_or_gt}
use Rattle.demand.specs.Demand.{Bytes}
use Rattle.inode_record.specs.declared.fields.Dstream.{Dstream}
use Rattle.std.specs.Prelude.{None, Some}

-- an inode, its id and its extra fields
pub record Parsed (p : Place) (id : ℕ) (v : List ℕ) (x : Inode) : Type 0 where
  pub named : x.id ≡ id
  pub fields : fields_in v ≡ Ok x.fields

parsed : (p : Place) (id : ℕ) (v : List ℕ) (x : Inode) → inode_in p id v ≡ Ok x → Parsed p id v x
unfolding inode_in
parsed p id v x e =
    let a = bound (ids_in v) _ x e in
    let b = bound (times_in v) _ x a.1.1 in
    let c = bound (owner_in v) _ x b.1.1 in
    let d = bound (fields_in v) _ x c.1.1 in
    let q = got_is _ x d.1.1 in
    record { named = sym (ap (λ (i : Inode). i.id) q); fields = d.1.0 ∙ ap (λ (i : Inode). Ok i.fields) q }

-- the place where it was read
pub record Placed (b : List ℕ) (v : Volume) (id : ℕ) (x : Inode) : Type 0 where
  pub place : Place
  pub parts : Parsed place id (value_of v.reader b place) x

pub inode_placed : (b : List ℕ) (v : Volume) (id s : ℕ) (x : Inode) → (inode_of b v id s).answer ≡ Ok x → Placed b v id x
unfolding inode_of inode_at
inode_placed b v id s x h = of (nth 0 (scan_of b (search_of v id 3) s)).nodes (nth 0 (scan_of b (search_of v id 3) s)).answer h
  where
    of : (n : ℕ) (a : Answer (Option Place)) → (onto (after n a) λ m t. after t (inode_met b v id m)).answer ≡ Ok x → Placed b v id x
    of n (Ok (Some p)) e = record { place = p; parts = parsed p id _ x e }
    of n (Ok None) e = absurd (let z : ◌≡◌ {A = ℕ} 0 1 = cc in omega arith)
    of n (Err w) e = absurd (let z : ◌≡◌ {A = ℕ} 0 1 = cc in omega arith)

-- ---- sizes

pub part_bytes : (b : List ℕ) (s : Span) → Bytes b → Bytes (part_of b s)
unfolding part_of
part_bytes b s h i = of (le_or_gt s.len i)
  where
    of : (s.len ≤ i) ⊎ (i < s.len) → get_or (take s.len (drop s.start b)) i 0 < 256
    of (inl k) =
        let q : get_or (take s.len (drop s.start b)) i 0 ≡ 0 = get_or-eq_default (take s.len (drop s.start b)) 0 {n = i} (simp length-take (omega arith)) in
        omega (arith, q)
    of (inr k) = rw (get_or-take s.len (drop s.start b) i 0 k, get_or-drop) (h (s.start + i))

number_small : (b : List ℕ) (off x : ℕ) → Bytes b → number_at 8 b off ≡ Ok x → x < 2 ^ 64
number_small b off x h e = (read_fits w64 8 b off (Ok x) x (sym e) refl (λ i. record { fits = h i }) tt).fits

abbrev Small : Fields → Type 0
Small f = stream_size f.stream < 2 ^ 64

stream_small : (b : List ℕ) (f : Fields) → Bytes b → stream_field b ≡ Ok f → Small f
unfolding stream_field
stream_small b f h e =
    let a = bound (number_at 8 b 0) _ f e in
    let c = bound (number_at 8 b 8) _ f a.1.1 in
    subst Small (got_is _ f c.1.1) (number_small b 0 a.0 h a.1.0)

field_small : (v : List ℕ) (kind : ℕ) (s : Span) (f : Fields) → Bytes v → field_in v kind s ≡ Ok f → Small f
unfolding field_in
field_small v kind s f h =
    eq_cases (λ (a : Answer Fields). a ≡ Ok f → Small f)
    (λ k e. subst Small (got_is _ f e) (omega arith))
    (λ k. eq_cases (λ (a : Answer Fields). a ≡ Ok f → Small f)
    (λ k e. stream_small (part_of v s) f (part_bytes v s h) e)
    (λ k e. subst Small (got_is _ f e) (omega arith)))

at_small : (v : List ℕ) (head off : ℕ) (f : Fields) → Bytes v → field_at v head off ≡ Ok f → Small f
unfolding field_at
at_small v head off f h e = let a = bound (span_at Corrupt (length v) off _) _ f e in field_small v _ a.0 f h a.1.1

later_small : (a b : Option Dstream) → stream_size a < 2 ^ 64 → stream_size b < 2 ^ 64 → stream_size (option_or a b) < 2 ^ 64
later_small (Some d) b p q = p
later_small None b p q = q

from_small : (v : List ℕ) → Bytes v → (n i off : ℕ) (f g : Fields) → Small f → fields_from v n i off f ≡ Ok g → Small g
unfolding fields_from
from_small v h zero i off f g k e = subst Small (got_is f g e) k
from_small v h (suc n) i off f g k e =
    let a = bound (number_at 4 v _) _ g e in
    let c = bound (field_at v a.0 off) _ g a.1.1 in
    from_small v h n (i + 1) _ (merged_of c.0 f) g (later_small c.0.stream f.stream (at_small v a.0 off c.0 h c.1.0) k) c.1.1

fields_small : (v : List ℕ) (g : Fields) → Bytes v → fields_in v ≡ Ok g → Small g
unfolding fields_in
fields_small v g h =
    le_cases (λ (a : Answer Fields). a ≡ Ok g → Small g)
    (λ k e. let a = bound (number_at 2 v 92) _ g e in from_small v h a.0 0 _ _ g (omega arith) a.1.1)
    (λ k e. subst Small (got_is _ g e) (omega arith))

pub inode_small : (b : List ℕ) (v : Volume) (id s : ℕ) (x : Inode) → Bytes b → (inode_of b v id s).answer ≡ Ok x → size_of x < 2 ^ 64
unfolding value_of block_of
inode_small b v id s x h e =
    let a = inode_placed b v id s x e in
    fields_small _ x.fields (part_bytes _ _ (part_bytes b _ h)) a.parts.fields
