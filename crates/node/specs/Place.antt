-- A record's place. Document 02, request 10: "a block number of 64 bits, then the key's offset inside the block and its length, then the value's, 32 bits
-- each".
use Rattle.std.specs.Prelude.{ℕ, ◌+◌, ◌-◌, ◌^◌, ◌≤◌, ◌<◌, List, None, Option, Some}
use Rattle.error.specs.Answer.{Answer, Ok, Err, ◌>>=◌, if_eq}
use Rattle.byte_fields.specs.Part.{part_of}
use Rattle.byte_fields.specs.declared.Span.{Span}
use Rattle.obj.specs.Block.{block_of}
use Rattle.obj.specs.declared.reader.Reader.{Reader}
use Rattle.node.specs.Entry.{key_value_at}
use Rattle.node.specs.declared.layout.Node.{Node}
use Rattle.node.specs.declared.layout.Info.{Info}
use Rattle.node.specs.declared.table.KeyValue.{KeyValue}
use Rattle.node.specs.declared.place.Place.{Place}

-- "a missing value is 0xFFFFFFFF in both its fields"
abbrev pub no_part : ℕ
no_part = 2 ^ 32 - 1

abbrev pub key_span : Place → Span
key_span p = record { start = p.key_off; len = p.key_len }

abbrev pub value_span : Place → Span
value_span p = record { start = p.val_off; len = p.val_len }

-- the value that a place holds
unfoldable pub placed_value : Place → Option Span
placed_value p = if_eq p.val_off no_part (if_eq p.val_len no_part None (Some (value_span p))) (Some (value_span p))

abbrev pub place_with : ℕ → Span → Option Span → Place
place_with block key (Some v) = record { block = block; key_off = key.start; key_len = key.len; val_off = v.start; val_len = v.len }
place_with block key None = record { block = block; key_off = key.start; key_len = key.len; val_off = no_part; val_len = no_part }

-- the place of an entry of the node at a block
unfoldable pub place_of : ℕ → KeyValue → Place
place_of block e = place_with block e.key e.value

-- the place of the i-th entry of a node
unfoldable pub place_at : Reader → List ℕ → Node → Info → ℕ → Answer Place
place_at r b m info i = key_value_at (block_of r b m.block) m info i >>= λ e. Ok (place_of m.block e)

-- the bytes of a record's key and of its value (document 01, "What must change shape": `scan` "answers places in the image"); a missing value has
-- none, as no block reaches so far
unfoldable pub key_of : Reader → List ℕ → Place → List ℕ
key_of r b p = part_of (block_of r b p.block) (key_span p)

unfoldable pub value_of : Reader → List ℕ → Place → List ℕ
value_of r b p = part_of (block_of r b p.block) (value_span p)

-- an entry inside a block of so many bytes
abbrev pub SpanLies : ℕ → Span → Type 0
SpanLies n s = s.start + s.len ≤ n

abbrev pub ValueLies : ℕ → Option Span → Type 0
ValueLies n (Some v) = SpanLies n v
ValueLies n None = Unit {0}

pub record Inside (n : ℕ) (e : KeyValue) : Type 0 where
  pub key_in : SpanLies n e.key
  pub value_in : ValueLies n e.value

-- an entry inside some block shorter than 2^32 bytes
pub record Small (e : KeyValue) : Type 0 where
  pub size : ℕ
  pub bound : size < 2 ^ 32
  pub inside : Inside size e
