-- A volume's label. Apple File System Reference, "Volumes", apfs_superblock_t, apfs_volname (APFS_VOLNAME_LEN is 256); document 01, "What must
-- change shape": "a name comes back as the part of the image that holds it"; it is read lossily where it is shown.
use Rattle.std.specs.Prelude.{ℕ, List}
use Rattle.byte_fields.specs.Part.{part_of, up_to_zero}
use Rattle.utf8.specs.Text.{Reading, reading}
use Rattle.obj.specs.Block.{block_of}
use Rattle.volume.specs.declared.Volume.{Volume}

unfoldable pub label_of : List ℕ → Volume → List ℕ
label_of image v = up_to_zero (part_of (block_of v.reader image v.sb.block) (record { start = 704; len = 256 }))

-- document 02, request 02: with the number of parts that were replaced
unfoldable pub label_reading : List ℕ → Volume → Reading
label_reading image v = reading (label_of image v)
