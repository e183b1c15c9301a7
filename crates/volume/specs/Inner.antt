-- The steps of `open_from` (Open.antt) by themselves, each with those after it: the shape of the code. That they are `open_from` is `opened_from`
-- (proofs/Laws.antt); a reader of the contracts may pass over this file.
use Rattle.std.specs.Prelude.{ℕ, ◌/◌, ◌%◌, List}
use Rattle.error.specs.Answer.{Ok, Err, if_eq}
use Rattle.error.specs.declared.Refusal.TheVariants.{Unsupported}
use Rattle.arith.specs.Checked.{ticked}
use Rattle.obj.specs.Block.{block_of}
use Rattle.obj.specs.declared.reader.Reader.{Reader}
use Rattle.node.specs.Node.{info_of}
use Rattle.node.specs.declared.layout.Node.{Node}
use Rattle.lookup.specs.declared.counted.Counted.{Counted}
use Rattle.lookup.specs.Counted.{after, from, onto}
use Rattle.lookup.specs.Read.{node_at}
use Rattle.lookup.specs.Map.{resolve_at}
use Rattle.lookup.specs.declared.map.Map.{Map}
use Rattle.lookup.specs.declared.map.Resolve.TheVariants.{Mapped}
use Rattle.omap.specs.Load.{map_at}
use Rattle.nx.specs.declared.volume.VolumeSuperblock.{VolumeSuperblock}
use Rattle.volume.specs.declared.Volume.{Volume}

unfoldable pub rooted_of : List ℕ → Reader → VolumeSuperblock → Map → Node → ℕ → Counted Volume
rooted_of image r sb m root s =
    from s (info_of root (block_of r image root.block)) λ info.
    after s (Ok (record { reader = r; sb = sb; map = m; root = root; info = info }))

-- the root counts once it has passed as a node
unfoldable pub tree_of : List ℕ → Reader → VolumeSuperblock → Map → ℕ → ℕ → Counted Volume
tree_of image r sb m p s = from s (node_at r image p) λ root. rooted_of image r sb m root (ticked s)

-- the root through the volume's own map; a mapping with flag 0x4 is 3
unfoldable pub through_map : List ℕ → Reader → VolumeSuperblock → Map → ℕ → Counted Volume
through_map image r sb m s = onto (resolve_at r image (Mapped m) sb.root_tree_oid s) λ p t. tree_of image r sb m p t

unfoldable pub map_first : List ℕ → Reader → VolumeSuperblock → ℕ → ℕ → Counted Volume
map_first image r sb xid s = onto (map_at r image sb.omap_oid xid s) λ m t. through_map image r sb m t

-- APFS_FS_UNENCRYPTED 0x1 of the flags; APFS_INCOMPAT_SEALED_VOLUME 0x20
unfoldable pub tested_of : List ℕ → Reader → VolumeSuperblock → ℕ → ℕ → Counted Volume
tested_of image r sb xid s =
    if_eq (sb.fs_flags % 2) 0 (after s (Err Unsupported))
    (if_eq (sb.incompat / 32 % 2) 1 (after s (Err Unsupported)) (map_first image r sb xid s))
