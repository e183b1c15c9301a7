-- Extended attributes. Apple File System Reference, "File-System Objects", j_xattr_key_t and j_xattr_val_t, and "Data Streams", j_xattr_dstream_t; document 01,
-- "Records": "Attribute flag 0x1 means a stream of object id and size, else the bytes follow"; the order of reading is that of fs.rs, `xattrs`.
use Rattle.std.specs.Prelude.{ℕ, ◌%◌, List, length}
use Rattle.error.specs.Answer.{Answer, Ok, ◌>>=◌, if_eq}
use Rattle.error.specs.declared.Refusal.TheVariants.{Corrupt}
use Rattle.byte_fields.specs.Number.{number_at}
use Rattle.byte_fields.specs.Part.{part_of, span_at}
use Rattle.byte_fields.specs.declared.Span.{Span}
use Rattle.obj.specs.declared.reader.Reader.{Reader}
use Rattle.obj.specs.Block.{block_of}
use Rattle.node.specs.Place.{key_span, value_span, key_of, value_of}
use Rattle.node.specs.declared.place.Place.{Place}
use Rattle.names.specs.Name.{name_of, name_bytes}
use Rattle.records.specs.declared.attribute.Attribute.{Attribute}
use Rattle.records.specs.declared.attribute.AttributeData.{AttributeData}
use Rattle.records.specs.declared.attribute.AttributeData.TheVariants.{Embedded, Stream}

-- xattr_obj_id, and the size that its dstream begins with
unfoldable pub stream_in : List ℕ → Answer AttributeData
stream_in b =
    number_at 8 b 0 >>= λ object.
    number_at 8 b 8 >>= λ size.
    Ok (Stream (record { object = object; size = size }))

-- xdata_len and xdata
unfoldable pub data_in : List ℕ → ℕ → Answer AttributeData
data_in value flags =
    number_at 2 value 2 >>= λ n.
    span_at Corrupt (length value) 4 n >>= λ s.
    if_eq (flags % 2) 1 (stream_in (part_of value s)) (Ok (Embedded s))

unfoldable pub with_name : Place → List ℕ → ℕ → ℕ → AttributeData → Answer Attribute
with_name p key n flags d =
    span_at Corrupt (length key) 10 n >>= λ s.
    Ok (record { place = p; name = name_of key s; flags = flags; contents = d })

-- name_len, flags, the contents, and the name last
unfoldable pub attribute_value : Place → List ℕ → List ℕ → Answer Attribute
attribute_value p key value =
    number_at 2 key 8 >>= λ n.
    number_at 2 value 0 >>= λ flags.
    data_in value flags >>= λ d.
    with_name p key n flags d

-- the attribute of a record in the block b
unfoldable pub attribute_of : List ℕ → Place → Answer Attribute
attribute_of b p = attribute_value p (part_of b (key_span p)) (part_of b (value_span p))

unfoldable pub attribute_at : Reader → List ℕ → Place → Answer Attribute
attribute_at r b p = attribute_of (block_of r b p.block) p

-- "a name comes back as the part of the image that holds it"
unfoldable pub attribute_name : Reader → List ℕ → Attribute → List ℕ
attribute_name r b a = name_bytes (key_of r b a.place) a.name

unfoldable pub attribute_bytes : Reader → List ℕ → Place → Span → List ℕ
attribute_bytes r b p s = part_of (value_of r b p) s
