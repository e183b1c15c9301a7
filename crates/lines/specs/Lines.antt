-- The lines of a listing. Document 01, "The listing (added)": "One form a line, ended by LF, single spaces, no indent".
-- Each function takes what is to follow, `x`: `node_line f x` is a node's line and then x.
use Rattle.std.specs.Prelude.{ℕ, Bool, true, false, List, [], ◌∷◌}
use Rattle.text.specs.Words.{ascii, digits, signed, bytes, bytes?, two?, words}
use Rattle.records.specs.declared.extent.Extent.{Extent}
use Rattle.lines.specs.Shown.{InodeShown, EntryShown, Form, embedded, streamed, AttributeShown, Contents, packed, plain}

-- "C and N are 1 where case, normalization is insensitive"
abbrev pub bit : Bool → ℕ
bit true = 1
bit false = 0

-- `(volume C N LABEL`
unfoldable pub volume_line : Bool → Bool → List ℕ → List ℕ → List ℕ
volume_line c n l x = ascii "(volume" (words (digits (bit c) ∷ digits (bit n) ∷ bytes l ∷ []) (ascii "\n" x))

-- `(node ID PARENT PRIVATE CREATE MOD CHANGE ACCESS IFLAGS LINKS BSD OWNER GROUP MODE NAME STREAM`
unfoldable pub node_line : InodeShown → List ℕ → List ℕ
node_line f x = ascii "(node" (words (
    digits f.id ∷ digits f.parent ∷ digits f.own ∷ digits f.create ∷ digits f.modify ∷ digits f.change ∷ digits f.access
    ∷ digits f.iflags ∷ signed f.links ∷ digits f.bsd ∷ digits f.owner ∷ digits f.group ∷ digits f.mode
    ∷ bytes? f.label ∷ two? f.stream ∷ []) (ascii "\n" x))

-- `e DATA)`, `s OBJECT DATA)`
unfoldable pub form_text : Form → List ℕ → List ℕ → List ℕ
form_text embedded d x = ascii "e" (words (bytes d ∷ []) (ascii ")\n" x))
form_text (streamed o) d x = ascii "s" (words (digits o ∷ bytes d ∷ []) (ascii ")\n" x))

-- `(attr FLAGS NAME e DATA)` or `(attr FLAGS NAME s OBJECT DATA)`
unfoldable pub attribute_line : AttributeShown (List ℕ) → List ℕ → List ℕ
attribute_line a x = ascii "(attr" (words (digits a.flags ∷ bytes a.label ∷ []) (ascii " " (form_text a.form a.contents x)))

-- `(data BYTES)`, `(packed)`
unfoldable pub contents_line : Contents → List ℕ → List ℕ
contents_line packed x = ascii "(packed)\n" x
contents_line (plain d) x = ascii "(data" (words (bytes d ∷ []) (ascii ")\n" x))

-- `(entry ID DATE KIND NAME`
unfoldable pub entry_line : EntryShown → List ℕ → List ℕ
entry_line e x = ascii "(entry" (words (digits e.id ∷ digits e.date_added ∷ digits e.kind ∷ bytes e.label ∷ []) (ascii "\n" x))

-- `(extent LOGICAL LENGTH BLOCK)`, in the listing's notation
unfoldable pub extent_line : Extent → List ℕ → List ℕ
extent_line e x = ascii "(extent" (words (digits e.logical ∷ digits e.len ∷ digits e.phys_block ∷ []) (ascii ")\n" x))

-- `(total NODES BYTES ATTRS)`: document 02, request 08
unfoldable pub total_line : ℕ → ℕ → ℕ → List ℕ → List ℕ
total_line n b a x = ascii "(total" (words (digits n ∷ digits b ∷ digits a ∷ []) (ascii ")\n" x))

-- "Then `)`"
unfoldable pub close : List ℕ → List ℕ
close x = ascii ")\n" x
