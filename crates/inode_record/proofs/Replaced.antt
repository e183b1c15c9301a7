-- Of what bytes the number of an inode's name counts: of the name's own, which are those of a field of its value, up to the first zero byte. Document
-- 02, request 02.
use Prim.Native.Nat.{ℕ, zero, suc, ◌+◌, ◌*◌, ◌/◌, ◌%◌}
use mathlib.Core.Path.{◌≡◌, refl, sym, ap, subst, ◌∙◌}
use mathlib.Core.List.{List}
use native.Mathlib.Omega.{arith}
use lib.ListN.{length}
use Rattle.error.specs.Answer.{Answer, Ok}
use Rattle.error.specs.declared.Refusal.TheVariants.{Corrupt}
use Rattle.error.proofs.Laws.{got_is, bound, eq_cases, le_cases}
use Rattle.byte_fields.specs.Number.{number_at}
use Rattle.byte_fields.specs.Part.{part_of, span_at, up_to_zero}
use Rattle.byte_fields.specs.declared.Span.{Span}
use Rattle.utf8.specs.Text.{replaced}
use Rattle.obj.specs.declared.reader.Reader.{Reader}
use Rattle.node.specs.Place.{value_of}
use Rattle.node.specs.declared.place.Place.{Place}
use Rattle.names.specs.Name.{name_of}
use Rattle.names.specs.declared.Name.{Name}
use Rattle.names.proofs.Laws.{name_facts}
use Rattle.inode_record.specs.Fields.{stream_field, no_fields, field_in, merged_of, field_at, fields_from, fields_in}
use Rattle.inode_record.specs.Inode.{ids_in, times_in, owner_in, inode_in, inode_at, inode_name}
use Rattle.inode_record.specs.declared.fields.Fields.{Fields}
use Rattle.inode_record.specs.declared.inode.Inode.{Inode}
use Rattle.std.specs.Prelude.{None, Option, Some}
use Rattle.std.specs.Option.{option_or}
use Rattle.inode_record.specs.declared.fields.Dstream.{Dstream}

-- where a name was found, it is that of a part of the value
Held : List ℕ → Fields → Type 0
Held v f = (n : Name) → f.name ≡ Some n → (s : Span) × (n ≡ name_of v s)

none_held : (v : List ℕ) (f : Fields) → f.name ≡ None → Held v f
unfolding Held
none_held v f e n h = absurd (let z : ◌≡◌ {A = ℕ} 0 1 = cc in omega arith)

name_held : (v : List ℕ) (s : Span) (d : Option Dstream) → Held v (record { name = Some (name_of v s); stream = d })
unfolding Held
name_held v s d n e = (s, let q : n ≡ name_of v s = cc in q)

stream_held : (v : List ℕ) (s : Span) (f : Fields) → stream_field (part_of v s) ≡ Ok f → Held v f
unfolding stream_field
stream_held v s f e =
    let a = bound (number_at 8 (part_of v s) 0) _ f e in
    let b = bound (number_at 8 (part_of v s) 8) _ f a.1.1 in
    none_held v f (sym (ap (λ (g : Fields). g.name) (got_is _ f b.1.1)))

field_held : (v : List ℕ) (kind : ℕ) (s : Span) (f : Fields) → field_in v kind s ≡ Ok f → Held v f
unfolding field_in
field_held v kind s f =
    eq_cases (λ (a : Answer Fields). a ≡ Ok f → Held v f)
    (λ k e. subst (Held v) (got_is _ f e) (name_held v s _))
    (λ k. eq_cases (λ (a : Answer Fields). a ≡ Ok f → Held v f)
    (λ k e. stream_held v s f e)
    (λ k e. none_held v f (sym (ap (λ (g : Fields). g.name) (got_is _ f e)))))

later_held : (v : List ℕ) (f g : Fields) → Held v f → Held v g → Held v (merged_of f g)
unfolding Held
later_held v f g h k n e = of f.name refl e
  where
    of : (a : Option Name) → f.name ≡ a → option_or a g.name ≡ Some n → (s : Span) × (n ≡ name_of v s)
    of (Some m) p q = h n (p ∙ q)
    of None p q = k n q

at_held : (v : List ℕ) (head off : ℕ) (f : Fields) → field_at v head off ≡ Ok f → Held v f
unfolding field_at
at_held v head off f e = let a = bound (span_at Corrupt (length v) off (head / 65536)) _ f e in field_held v (head % 256) a.0 f a.1.1

all_held : (v : List ℕ) (n i off : ℕ) (f g : Fields) → Held v f → fields_from v n i off f ≡ Ok g → Held v g
unfolding fields_from
all_held v zero i off f g h e = subst (Held v) (got_is f g e) h
all_held v (suc n) i off f g h e =
    let a = bound (number_at 4 v (96 + 4 * i)) _ g e in
    let b = bound (field_at v a.0 off) _ g a.1.1 in
    all_held v n (i + 1) _ (merged_of b.0 f) g (later_held v b.0 f (at_held v a.0 off b.0 b.1.0) h) b.1.1

fields_held : (v : List ℕ) (f : Fields) → fields_in v ≡ Ok f → Held v f
unfolding fields_in
fields_held v f =
    le_cases (λ (a : Answer Fields). a ≡ Ok f → Held v f)
    (λ k e. let a = bound (number_at 2 v 92) _ f e in all_held v a.0 0 _ no_fields f (none_held v no_fields refl) a.1.1)
    (λ k e. none_held v f (sym (ap (λ (g : Fields). g.name) (got_is _ f e))))

pub inode_named : (r : Reader) (b : List ℕ) (p : Place) (id : ℕ) (x : Inode) (n : Name) → inode_at r b p id ≡ Ok x → x.fields.name ≡ Some n
    → (s : Span) × ((inode_name r b x.place n ≡ up_to_zero (part_of (value_of r b p) s)) × (n.replaced ≡ replaced (inode_name r b x.place n)))
unfolding inode_at inode_in inode_name Held
inode_named r b p id x n e h =
    let v = value_of r b p in
    let a = bound (ids_in v) _ x e in
    let c = bound (times_in v) _ x a.1.1 in
    let d = bound (owner_in v) _ x c.1.1 in
    let f = bound (fields_in v) _ x d.1.1 in
    let q = got_is _ x f.1.1 in
    let k : p ≡ x.place = ap (λ (i : Inode). i.place) q in
    let w = fields_held v f.0 f.1.0 n (ap (λ (i : Inode). i.fields.name) q ∙ h) in
    (w.0, name_facts (value_of r b x.place) v w.0 n (ap (value_of r b) (sym k)) w.1)
