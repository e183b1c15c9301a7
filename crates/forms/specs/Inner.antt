-- How a node's form is written as it is read, each definition what one function does. None of it needs belief: the listing's promise names only
-- demand's definitions, `listed_of` and Course.antt's. `run` of a text from the start of a buffer is `within` (`listed_got`, `listed_no`, listing,
-- proofs/Whole.antt); what `go` leaves of a course is what `run` leaves of its text and what `spent` counts (`go_run`, `go_spent`, proofs/Going.antt).
use Rattle.std.specs.Prelude.{ℕ, ◌+◌, List, [], ◌∷◌}
use Rattle.error.specs.Answer.{Answer, Ok, Err}
use Rattle.text.specs.Output.{Output, at, refused, output_of, puts}
use Rattle.lookup.specs.declared.counted.Counted.{Counted}
use Rattle.lookup.specs.Counted.{after, onto}
use Rattle.btree.specs.Scan.{Run}
use Rattle.volume.specs.declared.Volume.{Volume}
use Rattle.records.specs.declared.attribute.Attribute.{Attribute}
use Rattle.records.specs.declared.attribute.StreamData.{StreamData}
use Rattle.inode_record.specs.declared.inode.Inode.{Inode}
use Rattle.volume.specs.Rule.{hashed_keys}
use Rattle.records.specs.Directory.{entry_at}
use Rattle.lists.specs.Lists.{list_of, attributes_of}
use Rattle.files.specs.File.{read_plain}
use Rattle.extents.specs.Verdict.{fine}
use Rattle.streams.specs.Streams.{stream_of}
use Rattle.calls.specs.Nodes.{capped}
use Rattle.lines.specs.Shown.{inode_shown, attribute_shown, plain}
use Rattle.lines.specs.Lines.{node_line, attribute_line, contents_line}
use Rattle.demand.specs.Trace.{done, stop, Trace}
use Rattle.demand.specs.Trace as trace
use Rattle.forms.specs.Course.{Deed, through, line, Course, writes, ◌and_then◌, readings, attribute_courses, data_course}

-- ---- a trace written into a lent buffer

-- how a trace ends: an output that is refused already stays so
abbrev pub ending : trace.End → Output → Output
ending done o = o
ending (stop e) (at b n) = refused e
ending (stop e) (refused w) = refused w

-- what is written of a trace, byte by byte
unfoldable pub run : ℕ → Trace → Output → Output
run room t o = ending t.ended (puts room t.text o)

-- ---- a course gone through into a lent buffer

-- an output, and the nodes gone through
pub record Stand : Type 0 where
  pub output : Output
  pub nodes : ℕ

abbrev pub stand_of : Counted ℕ → List ℕ → Stand
stand_of p b = record { output = output_of p.answer b; nodes = p.nodes }

-- nothing is counted once the output is refused
abbrev pub unless_refused : Output → ℕ → ℕ → ℕ
unless_refused (at b n) x y = x
unless_refused (refused e) x y = y

abbrev pub passes : ℕ → Stand → Stand
passes n s = record { output = s.output; nodes = unless_refused s.output (capped (s.nodes + n)) s.nodes }

unfoldable pub deed : ℕ → Deed → Stand → Stand
deed room (line t) s = record { output = puts room t s.output; nodes = s.nodes }
deed room (through n) s = passes n s

unfoldable pub go_through : ℕ → List Deed → Stand → Stand
go_through room [] s = s
go_through room (d ∷ ds) s = go_through room ds (deed room d s)

abbrev pub ended_with : trace.End → Stand → Stand
ended_with e s = record { output = ending e s.output; nodes = s.nodes }

unfoldable pub go : ℕ → Course → Stand → Stand
go room c s = ended_with c.ended (go_through room c.deeds s)

-- how something that is only read ends
abbrev pub end_of : {A : Type 0} → Answer A → trace.End
end_of (Ok x) = done
end_of (Err e) = stop e

-- after something that is only read
unfoldable pub reads : {A : Type 0} → Counted A → Stand → Stand
reads c s = ended_with (end_of c.answer) (passes c.nodes s)

-- whether a reading is refused
abbrev pub settled : {A : Type 0} → Counted A → Counted (Unit {0})
settled c = onto c λ x t. after t fine

-- ---- what a node's form holds besides its entries

-- the line of an attribute whose contents lie in a stream
unfoldable pub stream_course : List ℕ → Volume → Attribute → StreamData → Course
stream_course b v a d = readings (stream_of b v d.object d.size 0) λ c. writes (attribute_line (attribute_shown v.reader b a c) [])

unfoldable pub plain_course : List ℕ → Volume → Inode → Course
plain_course b v i = readings (read_plain b v i 0) λ d. writes (contents_line (plain d) [])

-- a node up to its entries: "all its attributes, then all its entries, are read"; the entries are those of a run
unfoldable pub head_course : List ℕ → Volume → Inode → Run → Course
head_course b v i r =
    writes (node_line (inode_shown v.reader b i) []) and_then
    readings (attributes_of b v i.id 0) λ l.
    readings (list_of (entry_at (hashed_keys v) v.reader b) r) λ es.
    attribute_courses b v l and_then data_course b v i
