-- What the tests of an accepted block say, one by one.
use Prim.Native.Nat.{ℕ}
use mathlib.Core.Path.{◌≡◌, refl, sym, ap, ◌∙◌}
use mathlib.Core.Bool.{true}
use mathlib.Core.List.{List}
use Rattle.std.specs.Prelude.{Some}
use borrow.Author.Tests.{eqb-true, eq-eqb}
use native.Mathlib.Omega.{arith}
use Rattle.error.specs.Answer.{Answer, Ok, Err}
use Rattle.error.proofs.Laws.{same, picked}
use Rattle.byte_fields.specs.Number.{number_at}
use Rattle.byte_fields.specs.Part.{part_of}
use Rattle.byte_fields.specs.declared.Span.{Span}
use Rattle.checksum.specs.Fletcher.{valid}
use Rattle.obj.specs.Header.{header_at, kind_of}
use Rattle.obj.specs.declared.header.ObjHeader.{ObjHeader}
use Rattle.obj.specs.declared.reader.Reader.{Reader}
use Rattle.geometry.specs.BlockZero.{is_magic, has_magic}
use Rattle.checkpoints.specs.Superblock.{superblock_at, descriptors_at}
use Rattle.checkpoints.specs.Maps.{maps_fit}
use Rattle.checkpoints.specs.Checkpoint.{marked_of, candidate_of, accepted_at}
use Rattle.checkpoints.specs.declared.superblock.Superblock.{Superblock}
use Rattle.checkpoints.proofs.Asked.{same_some, some_bound, known_bound, held, passed}

module _ (b : List ℕ) where
  pub magic_means : has_magic b ≡ true → number_at 4 b 32 ≡ Ok 0x4253584E
  unfolding has_magic
  magic_means e = of (number_at 4 b 32) refl e
    where
      of : (a : Answer ℕ) → number_at 4 b 32 ≡ a → is_magic a ≡ true → number_at 4 b 32 ≡ Ok 0x4253584E
      of (Ok n) p t = p ∙ ap Ok (eqb-true n 0x4253584E t)
      of (Err w) p t = absurd (let z : ◌≡◌ {A = ℕ} 0 1 = cc in omega arith)

  pub magic_if : number_at 4 b 32 ≡ Ok 0x4253584E → has_magic b ≡ true
  unfolding has_magic
  magic_if e = rw e (eq-eqb 0x4253584E 0x4253584E refl)

  module _ (place : Span) (sb : Superblock) where
    superblock_number : superblock_at b place ≡ Some sb → number_at 8 b 16 ≡ Ok sb.xid
    unfolding superblock_at
    superblock_number e =
        let x = known_bound (number_at 8 b 16) _ sb e in
        let i = known_bound (number_at 8 b 64) _ sb x.1.1 in
        let o = known_bound (number_at 8 b 160) _ sb i.1.1 in
        let v = known_bound (number_at 4 b 180) _ sb o.1.1 in
        let d = some_bound (descriptors_at b) _ sb v.1.1 in
        x.1.0 ∙ ap (λ (s : Superblock). Ok s.xid) (same_some d.1.1)

    pub superblock_if : sb.place ≡ place → number_at 8 b 16 ≡ Ok sb.xid → number_at 8 b 64 ≡ Ok sb.incompat →
        number_at 4 b 104 ≡ Ok sb.descriptors.blocks → number_at 8 b 112 ≡ Ok sb.descriptors.base → number_at 4 b 136 ≡ Ok sb.descriptors.index → number_at 4 b 140 ≡ Ok sb.descriptors.len →
        number_at 8 b 160 ≡ Ok sb.omap_oid → number_at 4 b 180 ≡ Ok sb.max_volumes → superblock_at b place ≡ Some sb
    unfolding superblock_at descriptors_at
    superblock_if p x i a d n l o v = rw (x, i, o, v, a, d, n, l, ← p)

    pub marked_facts : marked_of b place ≡ Some sb → (has_magic b ≡ true) × (valid b ≡ true) × (superblock_at b place ≡ Some sb)
    unfolding marked_of
    marked_facts e =
        let m = held (has_magic b) _ sb e in
        let v = held (valid b) _ sb m.1 in
        (m.0, v.0, v.1)

    pub candidate_facts : candidate_of b place ≡ Some sb → (h : ObjHeader) × (header_at b ≡ Ok h) × (kind_of h ≡ 1) × (marked_of b place ≡ Some sb)
    unfolding candidate_of
    candidate_facts e =
        let h = known_bound (header_at b) _ sb e in
        let k = passed (kind_of h.0) 1 _ sb h.1.1 in
        (h.0, h.1.0, k.0, k.1)

    pub candidate_if : (h : ObjHeader) → header_at b ≡ Ok h → kind_of h ≡ 1 → has_magic b ≡ true → valid b ≡ true → superblock_at b place ≡ Some sb → candidate_of b place ≡ Some sb
    unfolding candidate_of marked_of
    candidate_if h p k m v s = rw p (sym (same _ _ _ _ _ k (picked _ _ _ _ m (picked _ _ _ _ v (sym s)))))

pub accepted_facts : (r : Reader) (image : List ℕ) (ring : ℕ) (place : Span) (sb : Superblock) → accepted_at r image ring place ≡ Some sb →
    (candidate_of (part_of image place) place ≡ Some sb) × (maps_fit r image sb.descriptors sb.xid ring ≡ true)
unfolding accepted_at
accepted_facts r image ring place sb e =
    let c = some_bound (candidate_of (part_of image place) place) _ sb e in
    let f = held (maps_fit r image c.0.descriptors c.0.xid ring) (Some c.0) sb c.1.1 in
    let q : c.0 ≡ sb = same_some f.1 in
    (rw q at c.1.0, rw q at f.0)

-- an accepted block's transaction number is the number at byte 16
pub accepted_number : (r : Reader) (image : List ℕ) (ring : ℕ) (place : Span) (sb : Superblock) → accepted_at r image ring place ≡ Some sb → number_at 8 (part_of image place) 16 ≡ Ok sb.xid
accepted_number r image ring place sb e =
    let b = part_of image place in
    let c = candidate_facts b place sb (accepted_facts r image ring place sb e).0 in
    superblock_number b place sb (marked_facts b place sb c.3).2

pub accepted_candidate : (r : Reader) (image : List ℕ) (ring : ℕ) (place : Span) (sb : Superblock) → candidate_of (part_of image place) place ≡ Some sb → maps_fit r image sb.descriptors sb.xid ring ≡ true → accepted_at r image ring place ≡ Some sb
unfolding accepted_at
accepted_candidate r image ring place sb c m = rw c (sym (picked _ _ _ _ m refl))
