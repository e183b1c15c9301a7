-- Directory entries. Apple File System Reference, "File-System Objects", j_drec_key_t, j_drec_hashed_key_t and j_drec_val_t; document 01, "Records".
use Rattle.std.specs.Prelude.{ℕ, ◌+◌, ◌-◌, ◌%◌, Bool, List, length}
use Rattle.error.specs.Answer.{Answer, Ok, Err, ◌>>=◌, pick, if_eq}
use Rattle.error.specs.declared.Refusal.TheVariants.{Corrupt}
use Rattle.byte_fields.specs.Number.{number_at}
use Rattle.byte_fields.specs.Part.{part_of, up_to_zero}
use Rattle.byte_fields.specs.declared.Span.{Span}
use Rattle.utf8.specs.Text.{Reading, reading}
use Rattle.obj.specs.declared.reader.Reader.{Reader}
use Rattle.obj.specs.Block.{block_of}
use Rattle.node.specs.Place.{key_span, value_span, key_of}
use Rattle.node.specs.declared.place.Place.{Place}
use Rattle.records.specs.declared.directory.Entry.{Entry}

-- the bytes of a key from a place on
abbrev pub rest_from : List ℕ → ℕ → Span
rest_from key n = record { start = n; len = length key - n }

-- j_drec_hashed_key_t: name_len_and_hash, of which the low 10 bits are the name's length (J_DREC_LEN_MASK), then the name
unfoldable pub hashed_name : List ℕ → Answer Span
hashed_name key = number_at 4 key 8 >>= λ h. if_eq (length key) (12 + h % 1024) (Ok (rest_from key 12)) (Err Corrupt)

-- j_drec_key_t: name_len, then the name
unfoldable pub plain_name : List ℕ → Answer Span
plain_name key = number_at 2 key 8 >>= λ n. if_eq (length key) (10 + n) (Ok (rest_from key 10)) (Err Corrupt)

-- document 02, request 03: "A key of the other form, or whose length disagrees with its own count, is 2"
unfoldable pub name_in : Bool → List ℕ → Answer Span
name_in hashed key = pick hashed (hashed_name key) (plain_name key)

-- file_id, date_added, and the low 4 bits of flags (DREC_TYPE_MASK)
unfoldable pub entry_value : Place → Span → List ℕ → Answer Entry
entry_value p name value =
    number_at 8 value 0 >>= λ id.
    number_at 8 value 8 >>= λ date.
    number_at 2 value 16 >>= λ flags.
    Ok (record { place = p; name = name; file_id = id; date_added = date; kind = flags % 16 })

-- the entry of a record in the block b, the name before the value (fs.rs, `read_dir`)
unfoldable pub entry_of : Bool → List ℕ → Place → Answer Entry
entry_of hashed b p = name_in hashed (part_of b (key_span p)) >>= λ name. entry_value p name (part_of b (value_span p))

unfoldable pub entry_at : Bool → Reader → List ℕ → Place → Answer Entry
entry_at hashed r b p = entry_of hashed (block_of r b p.block) p

-- "a name comes back as the part of the image that holds it", "up to the first zero byte"
unfoldable pub entry_name : Reader → List ℕ → Entry → List ℕ
entry_name r b e = up_to_zero (part_of (key_of r b e.place) e.name)

-- its reading, with the number of parts that are replaced: document 02, request 02
unfoldable pub entry_reading : Reader → List ℕ → Entry → Reading
entry_reading r b e = reading (entry_name r b e)
