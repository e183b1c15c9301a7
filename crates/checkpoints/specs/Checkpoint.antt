-- Which checkpoint is taken. What this comes to is said in nx, specs/LatestCheckpoint.antt. Document 01, "Opening, in order"; Apple File System
-- Reference, "Container", "Mounting an Apple File System Partition".
use Rattle.std.specs.Prelude.{ℕ, zero, suc, ◌+◌, ◌*◌, List, length}
use Rattle.std.specs.Prelude.{Option, None, Some}
use Rattle.error.specs.Answer.{Answer, Ok, Err, ◌>>=◌, pick, if_le, if_eq}
use Rattle.error.specs.declared.Refusal.TheVariants.{Corrupt}
use Rattle.byte_fields.specs.Part.{part_of}
use Rattle.byte_fields.specs.declared.Span.{Span}
use Rattle.checksum.specs.Fletcher.{valid}
use Rattle.obj.specs.Header.{header_at, kind_of}
use Rattle.obj.specs.declared.reader.Reader.{Reader}
use Rattle.geometry.specs.BlockZero.{has_magic, area_at}
use Rattle.geometry.specs.declared.Geometry.{Geometry}
use Rattle.checkpoints.specs.Known.{known, ◌>>?◌}
use Rattle.checkpoints.specs.Superblock.{superblock_at}
use Rattle.checkpoints.specs.Maps.{maps_fit}
use Rattle.checkpoints.specs.declared.superblock.Superblock.{Superblock}

-- "A candidate is a descriptor block of kind 1 with NXSB and a valid checksum"
unfoldable pub marked_of : List ℕ → Span → Option Superblock
marked_of b place = pick (has_magic b) (pick (valid b) (superblock_at b place) None) None

unfoldable pub candidate_of : List ℕ → Span → Option Superblock
candidate_of b place = known (header_at b) >>? λ h. if_eq (kind_of h) 1 (marked_of b place) None

-- a candidate whose maps are accepted
unfoldable pub accepted_at : Reader → List ℕ → ℕ → Span → Option Superblock
accepted_at r image ring place =
    candidate_of (part_of image place) place >>? λ sb.
    pick (maps_fit r image sb.descriptors sb.xid ring) (Some sb) None

-- the i-th block of the area that starts at a byte of the image
abbrev pub block_place : Reader → ℕ → ℕ → Span
block_place r start i = record { start = start + i * r.block_size; len = r.block_size }

-- a block's checkpoint, unless there is one of a greater transaction number after it
abbrev pub newer : Superblock → Option Superblock → Option Superblock
newer own (Some other) = if_le other.xid own.xid (Some own) (Some other)
newer own None = Some own

abbrev pub prefer : Option Superblock → Option Superblock → Option Superblock
prefer (Some own) rest = newer own rest
prefer None rest = rest

-- of n blocks from the i-th on, the earliest of the greatest transaction number among the accepted
unfoldable pub latest_in : Reader → List ℕ → ℕ → ℕ → ℕ → ℕ → Option Superblock
latest_in r image start ring zero i = None
latest_in r image start ring (suc n) i = prefer (accepted_at r image ring (block_place r start i)) (latest_in r image start ring n (i + 1))

-- "No accepted candidate: 2"
abbrev pub or_corrupt : Option Superblock → Answer Superblock
or_corrupt (Some sb) = Ok sb
or_corrupt None = Err Corrupt

unfoldable pub checkpoint_of : List ℕ → Geometry → Answer Superblock
checkpoint_of image g = area_at (length image) g >>= λ start. or_corrupt (latest_in g.reader image start g.ring g.ring 0)
