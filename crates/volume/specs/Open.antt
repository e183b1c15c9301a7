-- Opening a volume. Document 01, "A volume is tested for encryption, then sealing (both 3), then its maps and root"; fs.rs, `Volume::open`.
use Rattle.std.specs.Prelude.{ℕ, ◌/◌, ◌%◌, List}
use Rattle.error.specs.Answer.{Answer, Ok, Err, if_eq}
use Rattle.error.specs.declared.Refusal.TheVariants.{Unsupported}
use Rattle.arith.specs.Checked.{ticked}
use Rattle.obj.specs.Block.{block_of}
use Rattle.obj.specs.declared.reader.Reader.{Reader}
use Rattle.node.specs.Node.{info_of}
use Rattle.lookup.specs.declared.counted.Counted.{Counted}
use Rattle.lookup.specs.Counted.{after, from, onto}
use Rattle.lookup.specs.Read.{node_at}
use Rattle.lookup.specs.Map.{resolve_at}
use Rattle.lookup.specs.declared.map.Resolve.TheVariants.{Mapped}
use Rattle.omap.specs.Load.{map_at}
use Rattle.nx.specs.Open.{open_at}
use Rattle.nx.specs.Volume.{volume_superblock}
use Rattle.nx.specs.declared.container.Container.{Container}
use Rattle.nx.specs.declared.volume.VolumeSuperblock.{VolumeSuperblock}
use Rattle.checkpoints.specs.declared.by_number.Choice.TheVariants.{Latest, Number}
use Rattle.volume.specs.declared.Volume.{Volume}
use Rattle.volume.specs.declared.Which.{Which}

-- fs.rs, `Volume::open`, in its six steps, of a volume's superblock, s nodes having been gone through before: encryption (APFS_FS_UNENCRYPTED is 0x1 of
-- the flags), sealing (APFS_INCOMPAT_SEALED_VOLUME is 0x20), the volume's own map, the root's address in it (a mapping with flag 0x4 is 3), the root, which
-- counts once it has passed as a node, and its info
unfoldable pub open_from : List ℕ → Reader → VolumeSuperblock → ℕ → ℕ → Counted Volume
open_from image r sb xid s =
    if_eq (sb.fs_flags % 2) 0 (after s (Err Unsupported))
    (if_eq (sb.incompat / 32 % 2) 1 (after s (Err Unsupported))
    (onto (map_at r image sb.omap_oid xid s) λ m t.
    onto (resolve_at r image (Mapped m) sb.root_tree_oid t) λ p u.
    from u (node_at r image p) λ root.
    from (ticked u) (info_of root (block_of r image root.block)) λ info.
    after (ticked u) (Ok (record { reader = r; sb = sb; map = m; root = root; info = info }))))

-- the volume at an index, s nodes having been gone through before
unfoldable pub volume_open : List ℕ → Container → ℕ → ℕ → Counted Volume
volume_open image c index s = onto (volume_superblock image c index s) λ sb t. open_from image c.reader sb c.sb.xid t

-- a volume of an image: its container opens first, at the checkpoint that is named
unfoldable pub volume_of_image : List ℕ → Which → Counted Volume
volume_of_image image w = onto (open_at w.checkpoint image) λ c s. volume_open image c w.index s

-- "Opening without a number remains the Rust's answer": document 02, request 04
abbrev pub latest : ℕ → Which
latest n = record { checkpoint = Latest; index = n }

-- "open by number"
abbrev pub numbered : ℕ → ℕ → Which
numbered xid n = record { checkpoint = Number xid; index = n }
