-- Opening a container. What this comes to is said in specs/LatestCheckpoint.antt. Document 01, "Opening, in order", and nx.rs; Apple File System
-- Reference, "Container".
use Rattle.std.specs.Prelude.{ℕ, ◌/◌, ◌%◌, ◌^◌, List, length}
use Rattle.error.specs.Answer.{Answer, Ok, Err, ◌>>=◌, if_le, if_eq}
use Rattle.error.specs.declared.Refusal.TheVariants.{Unsupported, ImageTooLarge}
use Rattle.obj.specs.declared.reader.Reader.{Reader}
use Rattle.lookup.specs.declared.counted.Counted.{Counted}
use Rattle.lookup.specs.Counted.{after, from, onto}
use Rattle.omap.specs.Load.{map_at}
use Rattle.geometry.specs.BlockZero.{geometry_at}
use Rattle.geometry.specs.declared.Geometry.{Geometry}
use Rattle.checkpoints.specs.Numbers.{checkpoint_by}
use Rattle.checkpoints.specs.declared.by_number.Choice.{Choice}
use Rattle.checkpoints.specs.declared.superblock.Superblock.{Superblock}
use Rattle.nx.specs.declared.container.Container.{Container}

-- "Version 1, then Fusion: 3": NX_INCOMPAT_VERSION1 0x1, NX_INCOMPAT_FUSION 0x100
unfoldable pub supported : Superblock → Answer Superblock
supported sb = if_eq (sb.incompat % 2) 1 (Err Unsupported) (if_eq (sb.incompat / 256 % 2) 1 (Err Unsupported) (Ok sb))

unfoldable pub chosen_of : Choice → List ℕ → Geometry → Answer Superblock
chosen_of choice image g = checkpoint_by choice image g >>= supported

-- "Then the object map"
unfoldable pub mapped_of : List ℕ → Reader → Superblock → Counted Container
mapped_of image r sb =
    onto (map_at r image sb.omap_oid sb.xid 0) λ m t.
    after t (Ok (record { reader = r; sb = sb; map = m }))

unfoldable pub container_of : Choice → List ℕ → Geometry → Counted Container
container_of choice image g = from 0 (chosen_of choice image g) λ sb. mapped_of image g.reader sb

-- "Image over 2^34 bytes: 7"; at the latest checkpoint, or at one by its number (document 02, request 04)
unfoldable pub open_at : Choice → List ℕ → Counted Container
open_at choice image = if_le (length image) (2 ^ 34) (from 0 (geometry_at image) λ g. container_of choice image g) (after 0 (Err ImageTooLarge))
