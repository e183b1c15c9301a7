-- The maps of a checkpoint, as they are gone through. What this comes to is said in nx, specs/LatestCheckpoint.antt. Document 01, "Opening, in order"; Apple File System Reference, "Container", checkpoint_map_phys_t.
use Rattle.std.specs.Prelude.{ℕ, zero, suc, ◌+◌, ◌-◌, ◌*◌, ◌%◌, Bool, true, false, List, length}
use Rattle.std.specs.Prelude.{Option, None, Some}
use Rattle.error.specs.Answer.{if_le, if_eq}
use Rattle.byte_fields.specs.Number.{number_at}
use Rattle.byte_fields.specs.Part.{part_of}
use Rattle.arith.specs.Checked.{sum_of}
use Rattle.obj.specs.Block.{object_at}
use Rattle.obj.specs.Header.{header_at, kind_of}
use Rattle.obj.specs.declared.reader.Reader.{Reader}
use Rattle.checkpoints.specs.Known.{known, ◌>>?◌}
use Rattle.checkpoints.specs.declared.superblock.Descriptors.{Descriptors}

-- whether a checkpoint map is the last one; none where there is no map: "holds its counted 40-byte entries"; flag 0x1 is CHECKPOINT_MAP_LAST
unfoldable pub entries_held : ℕ → ℕ → ℕ → Option Bool
entries_held size flags count = if_le (40 + 40 * count) size (if_eq (flags % 2) 1 (Some true) (Some false)) None

-- cpm_flags, cpm_count
unfoldable pub entries_in : List ℕ → Option Bool
entries_in b = known (number_at 4 b 32) >>? λ flags. known (number_at 4 b 36) >>? λ count. entries_held (length b) flags count

-- "of kind 0x0c, of the same xid"
unfoldable pub checkpoint_map_in : List ℕ → ℕ → Option Bool
checkpoint_map_in b xid = known (header_at b) >>? λ h. if_eq (kind_of h) 0x0c (if_eq h.xid xid (entries_in b) None) None

-- the k-th of the "ring blocks", intact; "A map whose address overflows is not accepted"
unfoldable pub checkpoint_map_at : Reader → List ℕ → Descriptors → ℕ → ℕ → ℕ → Option Bool
checkpoint_map_at r image d xid ring k =
    known (sum_of d.base ((d.index + k) % ring)) >>? λ p.
    known (object_at r image p) >>? λ s.
    checkpoint_map_in (part_of image s) xid

abbrev pub goes_on : Option Bool → Bool → Bool
goes_on (Some true) rest = true
goes_on (Some false) rest = rest
goes_on None rest = false

-- n maps from the k-th on, "up to one with flag 0x1"
unfoldable pub maps_from : Reader → List ℕ → Descriptors → ℕ → ℕ → ℕ → ℕ → Bool
maps_from r image d xid ring zero k = true
maps_from r image d xid ring (suc n) k = goes_on (checkpoint_map_at r image d xid ring k) (maps_from r image d xid ring n (k + 1))

-- "the first (descriptor length − 1) ring blocks"; "Base, index and length here are the candidate's own"; on a ring of 0 there is no candidate
unfoldable pub maps_fit : Reader → List ℕ → Descriptors → ℕ → ℕ → Bool
maps_fit r image d xid ring = if_eq ring 0 true (maps_from r image d xid ring (d.len - 1) 0)
