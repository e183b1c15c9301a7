-- The checkpoint that a container is opened at: proof of what specs/LatestCheckpoint.antt says.
use Prim.Native.Nat.{ℕ, ◌+◌, ◌-◌, ◌*◌, ◌/◌, ◌%◌, ◌^◌, ◌≤◌, ◌<◌}
use mathlib.Core.Path.{◌≡◌, refl, sym, ap, ◌∙◌}
use mathlib.Core.List.{List}
use Rattle.std.specs.Prelude.{Option, None, Some}
use lib.ListN.{length}
use native.Mathlib.Nat.{add-mul, mul-le-mul_right}
use native.Mathlib.Omega.{arith}
use Rattle.error.specs.Answer.{Answer, Ok, Err, ◌>>=◌, if_eq}
use Rattle.error.specs.declared.Refusal.TheVariants.{Unsupported}
use Rattle.error.proofs.Laws.{at_most_lem, same, other, eq_cases}
use Rattle.byte_fields.specs.Number.{little}
use Rattle.byte_fields.proofs.Laws.{part_length}
use Rattle.obj.specs.Header.{kind_of}
use Rattle.obj.specs.declared.header.ObjHeader.{ObjHeader}
use Rattle.lookup.specs.declared.counted.Counted.{Counted}
use Rattle.lookup.specs.Counted.{from}
use Rattle.geometry.specs.BlockZero.{geometry_at, area_at}
use Rattle.geometry.specs.declared.Geometry.{Geometry}
use Rattle.checkpoints.specs.Superblock.{superblock_at}
use Rattle.checkpoints.specs.Maps.{maps_from, maps_fit}
use Rattle.checkpoints.specs.Checkpoint.{accepted_at, block_place, latest_in, or_corrupt, checkpoint_of}
use Rattle.checkpoints.specs.declared.superblock.Superblock.{Superblock}
use Rattle.checkpoints.specs.declared.by_number.Choice.TheVariants as choice
use Rattle.checkpoints.proofs.Candidate.{magic_means, magic_if, superblock_if, marked_facts, candidate_facts, candidate_if, accepted_facts, accepted_candidate}
use Rattle.checkpoints.proofs.Asked.{same_some}
use Rattle.checkpoints.proofs.Latest.{latest_of, none_of}
use Rattle.nx.specs.Open.{supported, chosen_of, mapped_of, container_of, open_at}
use Rattle.nx.specs.LatestCheckpoint.{size, place_of, ring_block, xid_of, superblock_of, Candidate, Latest, opened_as, Opens, at_latest_lem, no_candidate, LatestCheckpoint}
use Rattle.nx.proofs.BlockZero.{same_inside, number_read, number_got, zero_read, area_got, read_means, read_if}
use Rattle.nx.proofs.Objects.{header_of, header_read}
use Rattle.nx.proofs.MapBlocks.{maps_mean, maps_if}

-- ---- version, Fusion and the object map
after_test : {A B : Type 0} (m n s : ℕ) (x y : Answer A) (f : A → Counted B) → from s (if_eq m n x y) f ≡ if_eq m n (from s x f) (from s y f)
after_test m n s x y f = eq_cases (λ (a : Answer _). from s a f ≡ if_eq m n (from s x f) (from s y f)) (λ h. same _ _ _ _ _ h refl) (λ h. other _ _ _ _ _ h refl)

pub supported_opened : (image : List ℕ) (g : Geometry) (sb : Superblock) → from 0 (supported sb) (λ s. mapped_of image g.reader s) ≡ opened_as image g sb
unfolding supported mapped_of opened_as
supported_opened image g sb = after_test (sb.incompat % 2) 1 0 _ _ _ ∙ rw (after_test (sb.incompat / 256 % 2) 1 0 (Err Unsupported) (Ok sb) (λ s. mapped_of image g.reader s))

module _ (image : List ℕ) (g : Geometry) (big : 4096 ≤ g.reader.block_size) (lies : g.base * size image g + g.ring * size image g ≤ length image) where
  -- ---- a block is accepted exactly if it is a candidate
  module _ (i : ℕ) (inside : i < g.ring) where
    ends : (g.base + i) * size image g + size image g ≤ length image
    ends =
        let h : (i + 1) * size image g ≤ g.ring * size image g = mul-le-mul_right (size image g) (omega arith) in
        rw add-mul (omega (arith, add-mul i 1 (size image g)))

    long : length (ring_block image g i) ≡ size image g
    long = part_length image (place_of image g (g.base + i)) ends

    read : superblock_at (ring_block image g i) (place_of image g (g.base + i)) ≡ Some (superblock_of image g i)
    read =
        let b = ring_block image g i in
        let l = long in
        superblock_if b (place_of image g (g.base + i)) (superblock_of image g i) refl (number_read 8 b 16 (omega arith)) (number_read 8 b 64 (omega arith)) (number_read 4 b 104 (omega arith)) (number_read 8 b 112 (omega arith))
        (number_read 4 b 136 (omega arith)) (number_read 4 b 140 (omega arith)) (number_read 8 b 160 (omega arith)) (number_read 4 b 180 (omega arith))

    abbrev pub Accepted : Superblock → Type 0
    Accepted sb = accepted_at g.reader image g.ring (place_of image g (g.base + i)) ≡ Some sb

    fit : maps_fit g.reader image (superblock_of image g i).descriptors (xid_of image g i) g.ring ≡ maps_from g.reader image (superblock_of image g i).descriptors (xid_of image g i) g.ring (little 4 (ring_block image g i) 140 - 1) 0
    unfolding maps_fit
    fit = sym (other _ _ _ _ _ (λ z. omega arith) refl)

    pub accepted_means : (sb : Superblock) → Accepted sb → (superblock_of image g i ≡ sb) × Candidate image g i
    accepted_means sb e =
        let b = ring_block image g i in
        let place = place_of image g (g.base + i) in
        let a = accepted_facts g.reader image g.ring place sb e in
        let c = candidate_facts b place sb a.0 in
        let m = marked_facts b place sb c.3 in
        let q : superblock_of image g i ≡ sb = same_some (sym read ∙ m.2) in
        let l = long in
        let h : header_of b ≡ c.0 = same_inside (sym (header_read b (omega arith)) ∙ c.1) in (
          q,
          record {
            inside = inside;
            kind = ap (λ (x : ObjHeader). kind_of x) h ∙ c.2;
            magic = sym (number_got 4 b 32 0x4253584E (magic_means b m.0)).1;
            checksum = m.1;
            maps = maps_mean image g i big (little 4 b 140 - 1) (sym fit ∙ (rw (← q) at a.1));
          },
        )

    pub accepted_if : Candidate image g i → Accepted (superblock_of image g i)
    accepted_if c =
        let b = ring_block image g i in
        let place = place_of image g (g.base + i) in
        let l = long in
        accepted_candidate g.reader image g.ring place (superblock_of image g i)
        (candidate_if b place (superblock_of image g i) (header_of b) (header_read b (omega arith)) c.kind (magic_if b (number_read 4 b 32 (omega arith) ∙ ap Ok c.magic)) c.checksum read)
        (fit ∙ maps_if image g i big (little 4 b 140 - 1) c.maps)

  -- ---- the latest
  taken : Option Superblock
  taken = latest_in g.reader image (g.base * size image g) g.ring g.ring 0

  pub same_place : (j : ℕ) → block_place g.reader (g.base * size image g) j ≡ place_of image g (g.base + j)
  same_place j = rw add-mul

  latest_means : (sb : Superblock) → taken ≡ Some sb → (i : ℕ) × Latest image g i × (superblock_of image g i ≡ sb)
  unfolding taken
  latest_means sb e =
      let l = latest_of g.reader image (g.base * size image g) g.ring g.ring 0 sb e in
      let i = l.own in
      let h : i < g.ring = omega (arith, l.before) in
      let a = accepted_means i h sb (rw (same_place i) at l.accepted) in
      let q : little 8 (ring_block image g i) 16 ≡ sb.xid = ap (λ (s : Superblock). s.xid) a.0 in (
        i,
        record {
          candidate = a.1;
          greatest = λ j c. rw q (l.greatest j (superblock_of image g j) (omega arith) (omega (arith, c.inside)) (rw (same_place j) (accepted_if j c.inside c)));
          earliest = λ j c w. l.earliest j (superblock_of image g j) (omega arith) (omega (arith, c.inside)) (rw (same_place j) (accepted_if j c.inside c)) (w ∙ q);
        },
        a.0,
      )

  none_means : taken ≡ None → (j : ℕ) → Candidate image g j → ⊥
  unfolding taken
  none_means e j c =
      let n = none_of g.reader image (g.base * size image g) g.ring g.ring 0 e in
      n j (superblock_of image g j) (omega arith) (omega (arith, c.inside)) (rw (same_place j) (accepted_if j c.inside c))

  -- ---- opening
  opens : open_at choice.Latest image ≡ from 0 (or_corrupt taken >>= supported) (λ s. mapped_of image g.reader s) → Opens image g
  opens e = of taken refl
    where
      of : (a : Option Superblock) → taken ≡ a → Opens image g
      of (Some sb) t =
          let l = latest_means sb t in
          at_latest_lem l.0 l.1 (e ∙ rw t (supported_opened image g sb ∙ ap (λ (s : Superblock). opened_as image g s) (sym l.2)))
      of None t = no_candidate (none_means t) (e ∙ rw t)

  pub opens_so : length image ≤ 2 ^ 34 → (start : ℕ) → geometry_at image ≡ Ok g → area_at (length image) g ≡ Ok start → start ≡ g.base * size image g → Opens image g
  unfolding open_at container_of chosen_of checkpoint_of taken
  opens_so h start p a q = opens (sym (at_most_lem _ _ _ _ _ h refl) ∙ rw (p, a, q))

pub latest_checkpoint : LatestCheckpoint
latest_checkpoint = record {
  opening = λ image h r.
      let z = zero_read image r.0 r.2 in
      let s = area_got (length image) r.0 r.1 r.3 in
      rw z.fields (opens_so image r.0 z.sized.taken.0 s.area h r.1 r.2 r.3 s.product);
  reading = λ image. (read_means image, read_if image);
}
