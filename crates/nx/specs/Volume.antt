-- A volume's superblock. Apple File System Reference, "Volumes", apfs_superblock_t; document 01, nx.rs.
use Rattle.std.specs.Prelude.{ℕ, List}
use Rattle.std.specs.Prelude.{Option, None, Some}
use Rattle.error.specs.Answer.{Answer, Ok, Err, ◌>>=◌, if_eq}
use Rattle.error.specs.declared.Refusal.TheVariants.{Corrupt}
use Rattle.byte_fields.specs.Number.{number_at}
use Rattle.byte_fields.specs.Part.{part_of}
use Rattle.obj.specs.Block.{object_at}
use Rattle.obj.specs.Header.{header_at, kind_of}
use Rattle.obj.specs.declared.reader.Reader.{Reader}
use Rattle.lookup.specs.declared.counted.Counted.{Counted}
use Rattle.lookup.specs.Counted.{after, from, onto}
use Rattle.lookup.specs.Map.{map_lookup}
use Rattle.lookup.specs.declared.map.MapValue.{MapValue}
use Rattle.nx.specs.Slots.{volumes_of, volume_at}
use Rattle.nx.specs.declared.container.Container.{Container}
use Rattle.nx.specs.declared.volume.VolumeSuperblock.{VolumeSuperblock}

-- apfs_incompatible_features, apfs_omap_oid, apfs_root_tree_oid, apfs_fs_flags
unfoldable pub fields_in : List ℕ → ℕ → Answer VolumeSuperblock
fields_in b block =
    number_at 8 b 56 >>= λ incompat.
    number_at 8 b 128 >>= λ omap.
    number_at 8 b 136 >>= λ tree.
    number_at 8 b 264 >>= λ flags.
    Ok (record { block = block; incompat = incompat; omap_oid = omap; root_tree_oid = tree; fs_flags = flags })

-- kind 0x0d and the magic APSB, else 2
unfoldable pub volume_in : List ℕ → ℕ → Answer VolumeSuperblock
volume_in b block =
    header_at b >>= λ h.
    if_eq (kind_of h) 0x0d
    (number_at 4 b 32 >>= λ magic. if_eq magic 0x42535041 (fields_in b block) (Err Corrupt))
    (Err Corrupt)

unfoldable pub volume_block : Reader → List ℕ → ℕ → Answer VolumeSuperblock
volume_block r image p = object_at r image p >>= λ s. volume_in (part_of image s) p

-- omap.rs: "absent, which callers turn into 2"
abbrev pub volume_of : Reader → List ℕ → Option MapValue → Answer VolumeSuperblock
volume_of r image None = Err Corrupt
volume_of r image (Some v) = volume_block r image v.paddr

-- the superblock of a volume's object id, s nodes having been gone through before
unfoldable pub mapped_volume : List ℕ → Container → ℕ → ℕ → Counted VolumeSuperblock
mapped_volume image c oid s = onto (map_lookup c.reader image c.map oid s) λ v t. after t (volume_of c.reader image v)

-- that of the volume at an index
unfoldable pub volume_superblock : List ℕ → Container → ℕ → ℕ → Counted VolumeSuperblock
volume_superblock image c index s = from s (volume_at index (volumes_of image c.sb)) λ oid. mapped_volume image c oid s
