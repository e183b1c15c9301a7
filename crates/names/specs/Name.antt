-- Names. Document 01, "What must change shape": "a name comes back as the part of the image that holds it", and bytes.rs: "up to the first zero byte
-- or the end"; document 02, request 02: "the number of ill-formed parts it replaced".
use Rattle.std.specs.Prelude.{ℕ, List, length}
use Rattle.byte_fields.specs.Part.{part_of, up_to_zero}
use Rattle.byte_fields.specs.declared.Span.{Span}
use Rattle.utf8.specs.Text.{reading}
use Rattle.names.specs.declared.Name.{Name}

-- the name that b begins with, where b stands at a place
abbrev pub name_from : ℕ → List ℕ → Name
name_from start b = record { span = record { start = start; len = length (up_to_zero b) }; replaced = (reading (up_to_zero b)).replaced }

-- the name that a part of b holds
unfoldable pub name_of : List ℕ → Span → Name
name_of b s = name_from s.start (part_of b s)

-- its bytes
unfoldable pub name_bytes : List ℕ → Name → List ℕ
name_bytes b n = part_of b n.span
