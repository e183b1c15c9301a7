-- An object that is read, by its bytes.
use Prim.Native.Nat.{ℕ, ◌+◌, ◌-◌, ◌*◌, ◌^◌, ◌≤◌, ◌<◌}
use mathlib.Core.Path.{◌≡◌, refl, sym}
use mathlib.Core.Bool.{true}
use mathlib.Core.List.{List}
use lib.ListN.{length}
use native.Mathlib.Omega.{arith}
use Rattle.error.specs.Answer.{Answer, Ok}
use Rattle.error.specs.declared.Refusal.TheVariants.{Io, Corrupt}
use Rattle.error.proofs.Laws.{le_cases, eq_cases, bound, at_most_lem, above, other, picked}
use Rattle.byte_fields.specs.Number.{little}
use Rattle.byte_fields.specs.Part.{part_of, span_at}
use Rattle.byte_fields.specs.declared.Span.{Span}
use Rattle.checksum.specs.Fletcher.{valid}
use Rattle.arith.specs.Checked.{product_of}
use Rattle.obj.specs.Block.{block_at, object_at}
use Rattle.obj.specs.Header.{header_at}
use Rattle.obj.specs.declared.header.ObjHeader.{ObjHeader}
use Rattle.obj.specs.declared.reader.Reader.{Reader}
use Rattle.nx.proofs.BlockZero.{never, same_inside, held, number_read, span_got, fitting_got}

-- the fields of a header that is read
abbrev pub header_of : List ℕ → ObjHeader
header_of b = record { cksum = little 8 b 0; oid = little 8 b 8; xid = little 8 b 16; obj_type = little 4 b 24; subtype = little 4 b 28 }

pub header_read : (b : List ℕ) → 32 ≤ length b → header_at b ≡ Ok (header_of b)
unfolding header_at
header_read b h =
    rw (number_read 8 b 0 (omega arith), number_read 8 b 8 (omega arith), number_read 8 b 16 (omega arith), number_read 4 b 24 (omega arith), number_read 4 b 28 (omega arith))

module _ (r : Reader) (image : List ℕ) (p : ℕ) where
  abbrev pub at : Span
  at = record { start = p * r.block_size; len = r.block_size }

  -- what a block that is read is
  pub record Read (s : Span) : Type 0 where
    pub not_first : 0 < p
    pub counted : p < r.block_count
    pub fits : p * r.block_size ≤ 2 ^ 64 - 1
    pub in_image : p * r.block_size + r.block_size ≤ length image
    pub place : s ≡ at

  block_read : (s : Span) → block_at r (length image) p ≡ Ok s → Read s
  unfolding block_at product_of
  block_read s =
      eq_cases (λ (a : Answer Span). a ≡ Ok s → Read s) (λ h e. never e)
      (λ h. le_cases (λ (a : Answer Span). a ≡ Ok s → Read s) (λ k e. never e)
      (λ k e.
      let o = bound (product_of p r.block_size) _ s e in
      let f = fitting_got (p * r.block_size) o.0 o.1.0 in
      let t = span_got Io (length image) o.0 r.block_size s o.1.1 in
      let q : o.0 ≡ p * r.block_size = f.1 in
      record { not_first = omega arith; counted = k; fits = f.0; in_image = rw q at t.0; place = rw q at t.1 }))

  pub object_read : (s : Span) → object_at r image p ≡ Ok s → (valid (part_of image at) ≡ true) × Read s
  unfolding object_at
  object_read s e =
      let b = bound (block_at r (length image) p) _ s e in
      let v = held (valid (part_of image b.0)) (Ok b.0) Corrupt s b.1.1 in
      let q : b.0 ≡ s = same_inside v.1 in
      let f = block_read s (rw q at b.1.0) in
      (rw (q, f.place) at v.0, f)

  pub object_if : 0 < p → p < r.block_count → p * r.block_size ≤ 2 ^ 64 - 1 → p * r.block_size + r.block_size ≤ length image → valid (part_of image at) ≡ true → object_at r image p ≡ Ok at
  unfolding object_at block_at product_of span_at
  object_if a c f i v =
      let m : product_of p r.block_size ≡ Ok (p * r.block_size) = sym (at_most_lem _ _ _ _ _ f refl) in
      let s : span_at Io (length image) (p * r.block_size) r.block_size ≡ Ok at = sym (at_most_lem _ _ _ _ _ i refl) in
      let b : block_at r (length image) p ≡ Ok at = sym (other _ _ _ _ _ (λ z. omega arith) (above _ _ _ _ _ c (rw m (sym s)))) in
      rw b (sym (picked _ _ _ _ v refl))
