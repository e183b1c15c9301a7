-- A bookmark. Document 02, request 10: "Keep 24 bytes: a block number of 64 bits, then the key's offset inside the block and its length, then the value's,
-- 32 bits each"; document 01: "Stored numbers are little-endian".
use Rattle.std.specs.Prelude.{ℕ, ◌+◌, ◌*◌, List, ◌++◌, length, None, Option, Some}
use Rattle.error.specs.Answer.{Answer, Ok, Err, if_le, if_eq}
use Rattle.error.specs.declared.Refusal.TheVariants.{Io}
use Rattle.byte_fields.specs.Number.{little, little_bytes}
use Rattle.obj.specs.declared.reader.Reader.{Reader}
use Rattle.node.specs.Place.{placed_value}
use Rattle.node.specs.declared.place.Place.{Place}
use Rattle.byte_fields.specs.declared.Span.{Span}

unfoldable pub mark_bytes : Place → List ℕ
mark_bytes p =
    little_bytes 8 p.block ++ (little_bytes 4 p.key_off ++ (little_bytes 4 p.key_len ++ (little_bytes 4 p.val_off ++ little_bytes 4 p.val_len)))

-- the place that 24 bytes say
unfoldable pub place_in : List ℕ → Place
place_in m = record { block = little 8 m 0; key_off = little 4 m 8; key_len = little 4 m 12; val_off = little 4 m 16; val_len = little 4 m 20 }

-- "one handed in whose parts pass its block .. is 1"; a missing value has no part
abbrev pub part_fits : ℕ → Place → Option Span → Answer Place
part_fits size p (Some v) = if_le (v.start + v.len) size (Ok p) (Err Io)
part_fits size p None = Ok p

abbrev pub value_fits : ℕ → Place → Answer Place
value_fits size p = part_fits size p (placed_value p)

unfoldable pub inside : ℕ → Place → Answer Place
inside size p = if_le (p.key_off + p.key_len) size (value_fits size p) (Err Io)

-- ".. or whose block passes the image, is 1; nothing else is tested"; what is not 24 bytes long is no bookmark, and 1 as well
unfoldable pub handed_in : Reader → List ℕ → List ℕ → Answer Place
handed_in r image m =
    if_eq (length m) 24
    (if_le ((little 8 m 0 + 1) * r.block_size) (length image) (inside r.block_size (place_in m)) (Err Io))
    (Err Io)
