-- What a listing does, one thing after the other, and the nodes that it goes through. Document 02, request 06: "each reading in 01 is one walk",
-- "A refused call adds the nodes counted up to the refusal". Its text and its end are the listing's own (`tied`, node_forms, specs/Tie.antt).
use Rattle.std.specs.Prelude.{ℕ, zero, suc, ◌+◌, ◌-◌, List, [], ◌∷◌, ◌++◌, length}
use Rattle.error.specs.Answer.{Answer, Ok, Err, if_le, if_eq}
use Rattle.error.specs.declared.Refusal.{Refusal}
use Rattle.error.specs.declared.Refusal.TheVariants.{TooDeep}
use Rattle.lookup.specs.declared.counted.Counted.{Counted}
use Rattle.volume.specs.Rule.{rule_of}
use Rattle.volume.specs.declared.Volume.{Volume}
use Rattle.records.specs.declared.attribute.Attribute.{Attribute}
use Rattle.records.specs.declared.directory.Entry.{Entry}
use Rattle.inode_record.specs.Inode.{compressed}
use Rattle.inode_record.specs.declared.inode.Inode.{Inode}
use Rattle.lists.specs.Lists.{root_id, inode_of, attributes_of, entries_of}
use Rattle.files.specs.File.{read_plain}
use Rattle.links.specs.Link.{contents_of}
use Rattle.calls.specs.Nodes.{capped}
use Rattle.lines.specs.Shown.{inode_shown, entry_shown, attribute_shown, plain}
use Rattle.lines.specs.Shown as shown
use Rattle.lines.specs.Lines.{volume_line, node_line, attribute_line, entry_line, contents_line, close}
use Rattle.totals.specs.Totals.{totals_of}
use Rattle.demand.specs.Trace.{End, done, stop, Trace}
use Rattle.demand.specs.Listing.{levels, foot_lines}
use Rattle.demand.specs.Demand.{label_shown}

-- a reading that goes through so many nodes, or a line
pub data Deed : Type 0 where
  through : ℕ → Deed
  line : List ℕ → Deed

pub record Course : Type 0 where
  pub deeds : List Deed
  pub ended : End

abbrev pub nothing : Course
nothing = record { deeds = []; ended = done }

abbrev pub writes : List ℕ → Course
writes t = record { deeds = line t ∷ []; ended = done }

abbrev pub stops : Refusal → Course
stops e = record { deeds = []; ended = stop e }

abbrev pub goes_on : List Deed → End → Course → Course
goes_on ds done d = record { deeds = ds ++ d.deeds; ended = d.ended }
goes_on ds (stop e) d = record { deeds = ds; ended = stop e }

infixr 50 ◌and_then◌
-- the one and, where it was done, the other
unfoldable pub ◌and_then◌ : Course → Course → Course
c and_then d = goes_on c.deeds c.ended d

abbrev pub read_as : {A : Type 0} → Answer A → (A → Course) → Course
read_as (Ok a) f = f a
read_as (Err e) f = stops e

abbrev pub passing : ℕ → Course → Course
passing n d = record { deeds = through n ∷ d.deeds; ended = d.ended }

-- a reading, refused or not, and what is made of it
unfoldable pub readings : {A : Type 0} → Counted A → (A → Course) → Course
readings c f = passing c.nodes (read_as c.answer f)

-- "a stream's or file's bytes are read for their own line" (document 01, "The listing (added)")
unfoldable pub attribute_course : List ℕ → Volume → Attribute → Course
attribute_course b v a = readings (contents_of b v a 0) λ d. writes (attribute_line (attribute_shown v.reader b a d) [])

unfoldable pub attribute_courses : List ℕ → Volume → List Attribute → Course
attribute_courses b v [] = nothing
attribute_courses b v (a ∷ l) = attribute_course b v a and_then attribute_courses b v l

unfoldable pub data_course : List ℕ → Volume → Inode → Course
data_course b v i =
    if_eq (compressed i) 1 (writes (contents_line shown.packed []))
    (readings (read_plain b v i 0) λ d. writes (contents_line (plain d) []))

unfoldable pub entry_course : (ℕ → Course) → List ℕ → Volume → Entry → Course
entry_course form b v e = writes (entry_line (entry_shown v.reader b e) []) and_then form e.file_id and_then writes (close [])

unfoldable pub entry_courses : (ℕ → Course) → List ℕ → Volume → List Entry → Course
entry_courses form b v [] = nothing
entry_courses form b v (e ∷ es) = entry_course form b v e and_then entry_courses form b v es

-- the node of that id, where so many levels are left: as demand's `node_form`
unfoldable pub node_course : List ℕ → Volume → ℕ → ℕ → Course
node_course b v zero id = stops TooDeep
node_course b v (suc d) id =
    readings (inode_of b v id 0) λ i.
    writes (node_line (inode_shown v.reader b i) []) and_then
    readings (attributes_of b v i.id 0) λ l.
    readings (entries_of b v i.id 0) λ es.
    attribute_courses b v l and_then data_course b v i and_then entry_courses (node_course b v d) b v es and_then writes (close [])

unfoldable pub body_course : List ℕ → Volume → Course
body_course b v = writes (volume_line (rule_of v).case_insensitive (rule_of v).normalization_insensitive (label_shown b v) []) and_then node_course b v levels root_id

-- its text
unfoldable pub text_in : List Deed → List ℕ
text_in [] = []
text_in (through n ∷ ds) = text_in ds
text_in (line t ∷ ds) = t ++ text_in ds

abbrev pub trace_in : Course → Trace
trace_in c = record { text = text_in c.deeds; ended = c.ended }

-- with its foot
unfoldable pub course_of : List ℕ → Volume → Course
course_of b v = body_course b v and_then writes (foot_lines (totals_of (text_in (body_course b v).deeds)))

-- the nodes gone through into `room` bytes, s before: up to the end, or to the first line that does not fit
unfoldable pub spent : ℕ → List Deed → ℕ → ℕ
spent room [] s = s
spent room (through n ∷ ds) s = spent room ds (capped (s + n))
spent room (line t ∷ ds) s = if_le (length t) room (spent (room - length t) ds s) s

-- the nodes of a volume's listing into `room` bytes, those of opening before it
unfoldable pub nodes_into : ℕ → List ℕ → Volume → ℕ → ℕ
nodes_into room b v s = spent room (course_of b v).deeds s
