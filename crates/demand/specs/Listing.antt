-- The listing. Document 01, "The listing (added)"; its foot, document 02, request 08.
use Rattle.std.specs.Prelude.{ℕ, zero, suc, Bool, List, [], ◌∷◌, eqb}
use Rattle.error.specs.Answer.{Answer, pick}
use Rattle.error.specs.declared.Refusal.TheVariants.{TooDeep}
use Rattle.inode_record.specs.Inode.{compressed_bit}
use Rattle.lists.specs.Lists.{root_id}
use Rattle.lines.specs.Shown.{InodeShown, EntryShown, AttributeShown, packed, plain}
use Rattle.lines.specs.Lines.{volume_line, node_line, attribute_line, contents_line, entry_line, total_line, close}
use Rattle.totals.specs.Totals.{totals_of}
use Rattle.totals.specs.declared.Totals.{Totals}
use Rattle.demand.specs.Trace.{Trace, says, refuses, ◌then◌, reading, within}
use Rattle.demand.specs.View.{View}

-- an attribute, with these contents
abbrev pub holding : {B C : Type 0} → AttributeShown B → C → AttributeShown C
holding a d = record { flags = a.flags; label = a.label; form = a.form; contents = d }

-- "`(attr FLAGS NAME e DATA)` or `(attr FLAGS NAME s OBJECT DATA)`"; "a stream's or file's bytes are read for their own line"
unfoldable pub attribute_lines : List (AttributeShown (Answer (List ℕ))) → Trace
attribute_lines [] = says []
attribute_lines (a ∷ l) = reading a.contents (λ d. says (attribute_line (holding a d) [])) then attribute_lines l

-- by BSD
abbrev pub is_packed : InodeShown → Bool
is_packed f = eqb (compressed_bit f.bsd) 1

-- "`(data BYTES)` or, if compressed, `(packed)`"
unfoldable pub data_line : View → InodeShown → Trace
data_line v f = pick (is_packed f) (says (contents_line packed [])) (reading (v.contents f.id) λ d. says (contents_line (plain d) []))

-- "per directory entry `(entry ID DATE KIND NAME`, the node of that ID, `)`"
unfoldable pub entry_forms : (ℕ → Trace) → List EntryShown → Trace
entry_forms form [] = says []
entry_forms form (e ∷ es) = says (entry_line e []) then form e.id then says (close []) then entry_forms form es

-- the node of that id, with `below` for the nodes of its entries: "After a node's line, all its attributes, then all its entries, are read before the
-- first of them is written"
abbrev pub form_over : View → (ℕ → Trace) → ℕ → Trace
form_over v below i =
    reading (v.inode i) λ f.
    says (node_line f []) then
    reading (v.attributes f.id) λ l.
    reading (v.entries f.id) λ es.
    attribute_lines l then data_line v f then entry_forms below es then says (close [])

-- the node of that id, where so many levels are left, its own counted: "10 (added) a listing node deeper than 64, after its entry's line and before
-- its inode is read"
unfoldable pub node_form : View → ℕ → ℕ → Trace
node_form v zero i = refuses TooDeep
node_form v (suc d) i = form_over v (node_form v d) i

-- "the root is at depth 0", and the deepest node at 64
abbrev pub levels : ℕ
levels = 65

-- "Before the last bracket comes `(total NODES BYTES ATTRS)`": the totals, and the last bracket
abbrev pub foot_lines : Totals → List ℕ
foot_lines t = total_line t.nodes t.bytes t.attrs (close [])

-- "Each equals the count over the lines above it"
unfoldable pub footed : Trace → Trace
footed t = t then says (foot_lines (totals_of t.text))

-- "`(volume C N LABEL` .. Then the root's node form, then `)`"
abbrev pub volume_over : View → Trace → Trace
volume_over v root = footed (says (volume_line (v.rule).case_insensitive (v.rule).normalization_insensitive v.label []) then root)

unfoldable pub trace : View → Trace
trace v = volume_over v (node_form v levels root_id)

-- a listing into a buffer of `room` bytes
unfoldable pub listing : View → ℕ → Answer (List ℕ)
listing v room = within room (trace v)
