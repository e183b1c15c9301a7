-- The line of a record, `(record KEY VALUE)`, in the listing's notation: document 01, "The listing (added)": "`x` precedes lower-case hexadecimal, and `x`
-- alone is empty; `-` is absent".
use Rattle.std.specs.Prelude.{ℕ, List, [], ◌∷◌}
use Rattle.std.specs.Prelude.{Option, None, Some}
use Rattle.byte_fields.specs.Part.{part_of}
use Rattle.text.specs.Words.{ascii, bytes, bytes?, words}
use Rattle.node.specs.Place.{key_span, placed_value}
use Rattle.node.specs.declared.place.Place.{Place}
use Rattle.byte_fields.specs.declared.Span.{Span}

abbrev pub shown : List ℕ → Option Span → Option (List ℕ)
shown b (Some v) = Some (part_of b v)
shown b None = None

-- of the record at a place in the block b
unfoldable pub record_line : List ℕ → Place → List ℕ → List ℕ
record_line b p x = ascii "(record" (words (bytes (part_of b (key_span p)) ∷ bytes? (shown b (placed_value p)) ∷ []) (ascii ")\n" x))
