-- File extents. Apple File System Reference, "Data Streams", j_file_extent_key_t and j_file_extent_val_t; fs.rs, `extents`.
use Rattle.std.specs.Prelude.{ℕ, ◌%◌, ◌^◌, List}
use Rattle.error.specs.Answer.{Answer, Ok, ◌>>=◌}
use Rattle.byte_fields.specs.Number.{number_at}
use Rattle.byte_fields.specs.Part.{part_of}
use Rattle.obj.specs.Block.{block_of}
use Rattle.obj.specs.declared.reader.Reader.{Reader}
use Rattle.node.specs.Place.{key_span, value_span}
use Rattle.node.specs.declared.place.Place.{Place}
use Rattle.records.specs.declared.extent.Extent.{Extent}

-- logical_addr; the length in the low 56 bits of len_and_flags (J_FILE_EXTENT_LEN_MASK); phys_block_num
unfoldable pub extent_in : List ℕ → List ℕ → Answer Extent
extent_in key value =
    number_at 8 key 8 >>= λ logical.
    number_at 8 value 0 >>= λ flags.
    number_at 8 value 8 >>= λ phys_block.
    Ok (record { logical = logical; len = flags % 2 ^ 56; phys_block = phys_block })

-- the extent of a record in the block b
unfoldable pub extent_of : List ℕ → Place → Answer Extent
extent_of b p = extent_in (part_of b (key_span p)) (part_of b (value_span p))

unfoldable pub extent_at : Reader → List ℕ → Place → Answer Extent
extent_at r b p = extent_of (block_of r b p.block) p
