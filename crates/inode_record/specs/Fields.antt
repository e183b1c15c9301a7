-- Extended fields of an inode. Apple File System Reference, "Extended Fields", xf_blob_t and x_field_t; document 01, "Records": "extra fields
-- begin at 92, each stepping by its size rounded up to 8; a repeated field's last copy counts".
use Rattle.std.specs.Prelude.{ℕ, zero, suc, ◌+◌, ◌*◌, ◌/◌, ◌%◌, List, length, None, Some}
use Rattle.std.specs.Option.{option_or}
use Rattle.error.specs.Answer.{Answer, Ok, ◌>>=◌, if_le, if_eq}
use Rattle.error.specs.declared.Refusal.TheVariants.{Corrupt}
use Rattle.byte_fields.specs.Number.{number_at}
use Rattle.byte_fields.specs.Part.{part_of, span_at}
use Rattle.byte_fields.specs.declared.Span.{Span}
use Rattle.names.specs.Name.{name_of}
use Rattle.inode_record.specs.declared.fields.Fields.{Fields}

-- j_dstream_t: size, alloced_size
unfoldable pub stream_field : List ℕ → Answer Fields
stream_field b =
    number_at 8 b 0 >>= λ size.
    number_at 8 b 8 >>= λ alloced_size.
    Ok (record { name = None; stream = Some (record { size = size; alloced_size = alloced_size }) })

abbrev pub no_fields : Fields
no_fields = record { name = None; stream = None }

-- what one field gives: INO_EXT_TYPE_NAME is 4, INO_EXT_TYPE_DSTREAM 8; no other is kept
unfoldable pub field_in : List ℕ → ℕ → Span → Answer Fields
field_in v kind s =
    if_eq kind 4 (Ok (record { name = Some (name_of v s); stream = None }))
    (if_eq kind 8 (stream_field (part_of v s)) (Ok no_fields))

-- "a repeated field's last copy counts"
abbrev pub merged_of : Fields → Fields → Fields
merged_of later earlier = record { name = option_or later.name earlier.name; stream = option_or later.stream earlier.stream }

-- a field with its entry of the table, x_type, x_flags and x_size; its bytes lie at off
unfoldable pub field_at : List ℕ → ℕ → ℕ → Answer Fields
field_at v head off = span_at Corrupt (length v) off (head / 65536) >>= λ s. field_in v (head % 256) s

-- "each stepping by its size rounded up to 8"
unfoldable pub next_off : ℕ → ℕ → ℕ
next_off off head = off + (head / 65536 + 7) / 8 * 8

-- n fields more, the next the i-th of the table; its bytes lie at off
unfoldable pub fields_from : List ℕ → ℕ → ℕ → ℕ → Fields → Answer Fields
fields_from v zero i off f = Ok f
fields_from v (suc n) i off f =
    number_at 4 v (96 + 4 * i) >>= λ head.
    field_at v head off >>= λ g.
    fields_from v n (i + 1) (next_off off head) (merged_of g f)

-- xf_num_exts, xf_used_data, the table and the fields' bytes; under 4 bytes hold none (fs.rs, `xfields`)
unfoldable pub fields_in : List ℕ → Answer Fields
fields_in v = if_le 96 (length v) (number_at 2 v 92 >>= λ n. fields_from v n 0 (96 + 4 * n) no_fields) (Ok no_fields)
