-- THE CHECKPOINT that a container is opened at: what is said of it. Document 01, "Opening, in order". It is proved, as `latest_checkpoint`, in
-- proofs/LatestCheckpoint.antt.
--
-- Of every image of at most 2^34 bytes, damaged or not, whose block 0 is read and whose descriptor area lies in the image, one of two holds:
--   1. some block of the ring is the latest, and opening answers exactly what version 1, Fusion and the object map say of the superblock in it, with
--      the block size and block count of block 0, and the object map at that superblock's transaction number;
--   2. no block of the ring is a candidate, and opening is refused with 2.
-- The latest is the candidate of the greatest transaction number, and of several the earliest. A candidate is told by its bytes and by those of its maps.
-- And 3. block 0 is read (`geometry_at`) and the area is found (`area_at`) exactly if what the paper tests of them holds of the image's bytes.
--
-- Of which call: `nx::open(image, Choice::Latest)` answers `open_at Latest image`, which is its contract. `little n b off` is the number of the n bytes of b at off, `valid` the
-- test of an object's checksum, `map_at` the object map that is loaded from an address. What `apfs_open` writes of it stands in apfs, specs/Opened.antt.
--
-- What is assumed: nothing. An image is any list of numbers.
use Rattle.std.specs.Prelude.{ℕ, ◌+◌, ◌-◌, ◌*◌, ◌/◌, ◌%◌, ◌^◌, ◌≤◌, ◌<◌, ◌≡◌, true, ◌↔◌, List, length}
use Rattle.std.specs.Int.Count.{ones}
use Rattle.error.specs.Answer.{Ok, Err, if_eq}
use Rattle.error.specs.declared.Refusal.TheVariants.{Corrupt, Unsupported}
use Rattle.byte_fields.specs.Number.{little}
use Rattle.byte_fields.specs.Part.{part_of}
use Rattle.byte_fields.specs.declared.Span.{Span}
use Rattle.checksum.specs.Fletcher.{valid}
use Rattle.lookup.specs.declared.counted.Counted.{Counted}
use Rattle.lookup.specs.Counted.{after, onto}
use Rattle.omap.specs.Load.{map_at}
use Rattle.geometry.specs.BlockZero.{geometry_at, area_at}
use Rattle.geometry.specs.declared.Geometry.{Geometry}
use Rattle.checkpoints.specs.declared.superblock.Superblock.{Superblock}
use Rattle.checkpoints.specs.declared.by_number.Choice.TheVariants as choice
use Rattle.nx.specs.Open.{open_at}
use Rattle.nx.specs.declared.container.Container.{Container}

-- block 0 "alone gives block size, block count and ring": nx_block_size, nx_block_count, nx_xp_desc_blocks, nx_xp_desc_base
unfoldable pub block_zero : List ℕ → Geometry
block_zero image = record {
  reader = record { block_size = little 4 image 36; block_count = little 8 image 40 };
  ring = little 4 image 104;
  base = little 8 image 112;
}

-- what is tested of block 0 and of the descriptor area: "First 4,096 bytes missing: 1. No NXSB at byte 32: 4. Block size: 2. Rest of block 0: 1.
-- Descriptor-tree bit 0x80000000: 3. Area address product over 2^64 − 1: 8. Area past the image: 1"; "Block 0's checksum is not checked"
pub record BlockZeroRead (image : List ℕ) : Type 0 where
  pub first_bytes : 4096 ≤ length image
  pub magic : little 4 image 32 ≡ 0x4253584E
  -- "4,096 to 65,536 and a number with one bit set"
  pub size_from : 4096 ≤ little 4 image 36
  pub size_to : little 4 image 36 ≤ 65536
  pub one_bit : ones (little 4 image 36) ≡ 1
  pub rest : little 4 image 36 ≤ length image
  pub no_tree : little 4 image 104 / 2 ^ 31 ≡ 1 → ⊥
  pub product_fits : little 8 image 112 * little 4 image 36 ≤ 2 ^ 64 - 1
  pub area : little 8 image 112 * little 4 image 36 + little 4 image 104 * little 4 image 36 ≤ length image

-- of an image whose block 0 gives g
module _ (image : List ℕ) (g : Geometry) where
  -- ---- blocks and their bytes

  abbrev pub size : ℕ
  size = g.reader.block_size

  -- where the block at an address lies
  abbrev pub place_of : ℕ → Span
  place_of p = record { start = p * size; len = size }

  -- its bytes
  abbrev pub block : ℕ → List ℕ
  block p = part_of image (place_of p)

  -- those of the i-th block of the ring
  abbrev pub ring_block : ℕ → List ℕ
  ring_block i = block (g.base + i)

  -- o_xid
  abbrev pub xid_of : ℕ → ℕ
  xid_of i = little 8 (ring_block i) 16

  -- ---- the maps of the i-th block. "Base, index and length here are the candidate's own"; the ring is block 0's

  -- nx_xp_desc_base, nx_xp_desc_index: the address of the k-th of the "ring blocks"
  abbrev pub map_address : ℕ → ℕ → ℕ
  map_address i k = little 8 (ring_block i) 112 + (little 4 (ring_block i) 136 + k) % g.ring

  abbrev pub map_block : ℕ → ℕ → List ℕ
  map_block i k = block (map_address i k)

  -- "up to one with flag 0x1": cpm_flags, CHECKPOINT_MAP_LAST
  abbrev pub Last : ℕ → ℕ → Type 0
  Last i k = little 4 (map_block i k) 32 % 2 ≡ 1

  -- the k-th "is intact, of kind 0x0c, of the same xid, and holds its counted 40-byte entries" (cpm_count)
  pub record CheckpointMap (i k : ℕ) : Type 0 where
    -- "an object at block address 0, or at or past the block count, is 2"
    pub not_first : 0 < map_address i k
    pub counted : map_address i k < g.reader.block_count
    -- "A map whose address overflows is not accepted"
    pub sum_fits : map_address i k ≤ 2 ^ 64 - 1
    pub product_fits : map_address i k * size ≤ 2 ^ 64 - 1
    -- "a read that ends past the image is 1"
    pub in_image : map_address i k * size + size ≤ length image
    pub intact : valid (map_block i k) ≡ true
    pub kind : little 4 (map_block i k) 24 % 2 ^ 16 ≡ 0x0c
    pub same_xid : little 8 (map_block i k) 16 ≡ xid_of i
    pub holds : 40 + 40 * little 4 (map_block i k) 36 ≤ size

  -- ---- candidates, and the latest of them

  -- "a descriptor block of kind 1 with NXSB and a valid checksum", whose maps are accepted: "each of the first (descriptor length − 1) ring blocks, up to
  -- one with flag 0x1" is a map (nx_xp_desc_len)
  pub record Candidate (i : ℕ) : Type 0 where
    pub inside : i < g.ring
    pub kind : little 4 (ring_block i) 24 % 2 ^ 16 ≡ 1
    pub magic : little 4 (ring_block i) 32 ≡ 0x4253584E
    pub checksum : valid (ring_block i) ≡ true
    pub maps : (k : ℕ) → k < little 4 (ring_block i) 140 - 1 → ((j : ℕ) → j < k → Last i j → ⊥) → CheckpointMap i k

  pub record Latest (i : ℕ) : Type 0 where
    pub candidate : Candidate i
    pub greatest : (j : ℕ) → Candidate j → xid_of j ≤ xid_of i
    pub earliest : (j : ℕ) → Candidate j → xid_of j ≡ xid_of i → i ≤ j

  -- ---- what is opened

  -- o_xid, nx_incompatible_features, nx_omap_oid, nx_max_file_systems, nx_xp_desc_blocks, nx_xp_desc_base, nx_xp_desc_index and nx_xp_desc_len of the i-th block
  abbrev pub superblock_of : ℕ → Superblock
  superblock_of i = record {
    place = place_of (g.base + i);
    xid = xid_of i;
    incompat = little 8 (ring_block i) 64;
    omap_oid = little 8 (ring_block i) 160;
    max_volumes = little 4 (ring_block i) 180;
    descriptors = record { blocks = little 4 (ring_block i) 104; base = little 8 (ring_block i) 112; index = little 4 (ring_block i) 136; len = little 4 (ring_block i) 140 };
  }

  -- "Version 1, then Fusion: 3. Then the object map": NX_INCOMPAT_VERSION1 0x1, NX_INCOMPAT_FUSION 0x100
  unfoldable pub opened_as : Superblock → Counted Container
  opened_as sb =
      if_eq (sb.incompat % 2) 1 (after 0 (Err Unsupported))
      (if_eq (sb.incompat / 256 % 2) 1 (after 0 (Err Unsupported))
      (onto (map_at g.reader image sb.omap_oid sb.xid 0) λ m nodes.
      after nodes (Ok (record { reader = g.reader; sb = sb; map = m }))))

  -- how opening ends
  pub data Opens : Type 0 where
    at_latest_lem : (i : ℕ) → Latest i → open_at choice.Latest image ≡ opened_as (superblock_of i) → Opens
    -- "No accepted candidate: 2"
    no_candidate : ((i : ℕ) → Candidate i → ⊥) → open_at choice.Latest image ≡ after 0 (Err Corrupt) → Opens

-- ---- the theorem

-- block 0 and the area are read
abbrev pub AreaRead : List ℕ → Type 0
AreaRead image = (g : Geometry) × (start : ℕ) × (geometry_at image ≡ Ok g) × (area_at (length image) g ≡ Ok start)

pub record LatestCheckpoint : Type 0 where
  -- 1 and 2
  pub opening : (image : List ℕ) → length image ≤ 2 ^ 34 → AreaRead image → Opens image (block_zero image)
  -- 3
  pub reading : (image : List ℕ) → AreaRead image ↔ BlockZeroRead image
