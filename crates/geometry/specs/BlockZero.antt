-- What block 0 says: the block size, the block count and where the descriptor area lies. Document 01, "Opening, in order", and nx.rs; Apple File System
-- Reference, "Container", nx_superblock_t.
use Rattle.std.specs.Prelude.{ℕ, ◌*◌, ◌/◌, ◌^◌, Bool, false, List, eqb, length}
use Rattle.std.specs.Int.Count.{ones}
use Rattle.error.specs.Answer.{Answer, Ok, Err, ◌>>=◌, pick, if_le, if_eq}
use Rattle.error.specs.declared.Refusal.TheVariants.{Io, Corrupt, Unsupported, NotFound}
use Rattle.byte_fields.specs.Number.{number_at}
use Rattle.byte_fields.specs.Part.{part_of, span_at}
use Rattle.arith.specs.Checked.{product_of}
use Rattle.geometry.specs.declared.Geometry.{Geometry}

-- "Block size is 4,096 to 65,536 and a number with one bit set"
unfoldable pub size_ok : ℕ → Answer ℕ
size_ok size = if_le 4096 size (if_le size 65536 (if_eq (ones size) 1 (Ok size) (Err Corrupt)) (Err Corrupt)) (Err Corrupt)

-- NX_MAGIC, "NXSB"
abbrev pub is_magic : Answer ℕ → Bool
is_magic (Ok n) = eqb n 0x4253584E
is_magic (Err e) = false

unfoldable pub has_magic : List ℕ → Bool
has_magic b = is_magic (number_at 4 b 32)

-- "No NXSB at byte 32: 4. Block size: 2"
unfoldable pub size_in : List ℕ → Answer ℕ
size_in b = pick (has_magic b) (number_at 4 b 36 >>= size_ok) (Err NotFound)

-- "First 4,096 bytes missing: 1"
unfoldable pub size_at : List ℕ → Answer ℕ
size_at image = span_at Io (length image) 0 4096 >>= λ s. size_in (part_of image s)

-- "Descriptor-tree bit 0x80000000: 3"; "Block 0's checksum is not checked; it alone gives block size, block count and ring"
unfoldable pub ring_of : ℕ → ℕ → ℕ → ℕ → Answer Geometry
ring_of size count blocks base =
    if_eq (blocks / 2 ^ 31) 1 (Err Unsupported)
    (Ok (record { reader = record { block_size = size; block_count = count }; ring = blocks; base = base }))

-- nx_block_count, nx_xp_desc_blocks, nx_xp_desc_base
unfoldable pub geometry_in : List ℕ → ℕ → Answer Geometry
geometry_in b size =
    number_at 8 b 40 >>= λ count.
    number_at 4 b 104 >>= λ blocks.
    number_at 8 b 112 >>= λ base.
    ring_of size count blocks base

-- "Rest of block 0: 1"
unfoldable pub geometry_at : List ℕ → Answer Geometry
geometry_at image =
    size_at image >>= λ size.
    span_at Io (length image) 0 size >>= λ s.
    geometry_in (part_of image s) size

-- "Area address product over 2^64 − 1: 8. Area past the image: 1; a ring of 0 still has its start tested so"
unfoldable pub area_at : ℕ → Geometry → Answer ℕ
area_at size g =
    product_of g.base g.reader.block_size >>= λ start.
    span_at Io size start (g.ring * g.reader.block_size) >>= λ s.
    Ok start
