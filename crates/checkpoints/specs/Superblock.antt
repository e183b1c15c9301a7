-- A container superblock's fields. Apple File System Reference, "Container", nx_superblock_t.
use Rattle.std.specs.Prelude.{ℕ, List}
use Rattle.std.specs.Prelude.{Option, None, Some}
use Rattle.error.specs.Answer.{Answer, Ok, Err}
use Rattle.byte_fields.specs.Number.{number_at}
use Rattle.byte_fields.specs.declared.Span.{Span}
use Rattle.checkpoints.specs.Known.{known, ◌>>?◌}
use Rattle.checkpoints.specs.declared.superblock.Descriptors.{Descriptors}
use Rattle.checkpoints.specs.declared.superblock.Superblock.{Superblock}

-- nx_xp_desc_blocks, nx_xp_desc_base, nx_xp_desc_index, nx_xp_desc_len
unfoldable pub descriptors_at : List ℕ → Option Descriptors
descriptors_at b =
    known (number_at 4 b 104) >>? λ blocks.
    known (number_at 8 b 112) >>? λ base.
    known (number_at 4 b 136) >>? λ index.
    known (number_at 4 b 140) >>? λ len.
    Some (record { blocks = blocks; base = base; index = index; len = len })

-- o_xid, nx_incompatible_features, nx_omap_oid, nx_max_file_systems
unfoldable pub superblock_at : List ℕ → Span → Option Superblock
superblock_at b place =
    known (number_at 8 b 16) >>? λ xid.
    known (number_at 8 b 64) >>? λ incompat.
    known (number_at 8 b 160) >>? λ omap.
    known (number_at 4 b 180) >>? λ volumes.
    descriptors_at b >>? λ d.
    Some (record { place = place; xid = xid; incompat = incompat; omap_oid = omap; max_volumes = volumes; descriptors = d })
