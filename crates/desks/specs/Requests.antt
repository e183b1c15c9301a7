-- A call by its number: what it answers, what it leaves of its buffer, and the nodes that it goes through. Document 02, request 06: "each call names its
-- desk .. that desk's count goes up in the dock's record by the nodes its call went through". A text that is counted has the answer of the call that is
-- exported by itself (`entry_text` is `entry_counted`'s, and so on): "the answer is the usual one".
use Rattle.std.specs.Prelude.{ℕ, ◌%◌, List, ℤ}
use Rattle.error.specs.Answer.{Answer, Err, if_le, if_eq}
use Rattle.error.specs.declared.Refusal.TheVariants.{NotFound}
use Rattle.byte_fields.specs.Part.{part_of}
use Rattle.gpt.specs.Part.{part_of_image, on_part}
use Rattle.lookup.specs.declared.counted.Counted.{Counted}
use Rattle.lookup.specs.Counted.{from}
use Rattle.checkpoints.specs.Numbers.{numbers_at}
use Rattle.checkpoints.specs.declared.by_number.Choice.TheVariants.{Latest, Number}
use Rattle.volume.specs.declared.Which.{Which}
use Rattle.calls.specs.Filled.{Filled, filled_by}
use Rattle.listing.specs.Listed.{listed_of, list_counted}
use Rattle.container_line.specs.Container.{open_counted}
use Rattle.element_lines.specs.Elements.{lookup_counted, entry_counted, extent_counted}
use Rattle.attribute_lines.specs.Attributes.{attribute_counted}
use Rattle.entry_lines.specs.Entries.{entries_counted}
use Rattle.reads.specs.Reads.{read_counted, link_counted, xattr_counted}
use Rattle.measure.specs.Line.{measure_counted}
use Rattle.marks.specs.Texts.{mark_counted, marked_counted}
use Rattle.replaced_line.specs.Line.{replaced_counted}
use Rattle.xid_list.specs.Listed.{xids_by}
use Rattle.part_line.specs.Line.{part_text}
use Rattle.wrong_word.specs.Mends.{mends_of, mends_in}
use Rattle.results.specs.Call.{number}

-- what a call was given; of a buffer its length
pub record Request : Type 0 where
  pub what : ℕ
  pub image : List ℕ
  pub numbered : ℕ
  pub xid : ℕ
  pub volume : ℕ
  pub a : ℕ
  pub b : ℕ
  pub c : ℕ
  pub path : List ℕ
  pub room : ℕ

abbrev pub asked : ℕ → List ℕ → ℕ → ℕ → ℕ → ℕ → ℕ → ℕ → List ℕ → ℕ → Request
asked what image numbered xid volume a b c path room =
    record { what = what; image = image; numbered = numbered; xid = xid; volume = volume; a = a; b = b; c = c; path = path; room = room }

-- the latest checkpoint, or that of a number
abbrev pub which_by : ℕ → ℕ → ℕ → Which
which_by numbered xid volume = record { checkpoint = if_eq numbered 0 Latest (Number xid); index = volume }

abbrev pub which_of : Request → Which
which_of q = which_by q.numbered q.xid q.volume

-- a call on the bytes of a container, by its number: a text, or the bytes of a bookmark
unfoldable pub text_by : ℕ → Which → ℕ → ℕ → ℕ → List ℕ → ℕ → List ℕ → Counted (List ℕ)
text_by what w a b c path room p =
    if_eq what 0 (open_counted w.checkpoint p)
    (if_eq what 1 (lookup_counted p w path)
    (if_eq what 2 (read_counted p w a b room)
    (if_eq what 3 (list_counted p w room)
    (if_eq what 4 (entry_counted p w a b)
    (if_eq what 5 (attribute_counted p w a b)
    (if_eq what 6 (link_counted p w a)
    (if_eq what 7 (extent_counted p w a b)
    (if_eq what 8 (xattr_counted p w a b)
    (if_eq what 9 (entries_counted p w a b room)
    (if_eq what 10 (measure_counted p w)
    (if_eq what 11 (mark_counted p w a (c % 256) b)
    (if_eq what 12 (marked_counted w.checkpoint p path)
    (replaced_counted p w c a b)))))))))))))

abbrev pub text_of : Request → List ℕ → Counted (List ℕ)
text_of q p = text_by q.what (which_of q) q.a q.b q.c q.path q.room p

-- "Everything after reads that part as its whole image" (request 01)
abbrev pub answer_of : Request → Answer (List ℕ)
answer_of q = on_part (λ p. (text_of q p).answer) q.image

-- what is answered into the buffer; those from 14 on go through no node, and above 16 there is no call
unfoldable pub filled_for : Request → List ℕ → Filled
filled_for q out =
    if_eq q.what 3 (listed_of (answer_of q) out)
    (if_eq q.what 14 (xids_by (on_part numbers_at q.image) out)
    (if_eq q.what 15 (filled_by (part_text q.image) out)
    (if_eq q.what 16 (mends_in (mends_of q.image) out)
    (if_le 17 q.what (record { answer = Err NotFound; buffer = out }) (filled_by (answer_of q) out)))))

abbrev pub result_for : Request → List ℕ → ℤ
result_for q out = number (filled_for q out).answer

abbrev pub buffer_for : Request → List ℕ → List ℕ
buffer_for q out = (filled_for q out).buffer

-- the nodes of opening and of every reading, up to the end or the refusal
unfoldable pub nodes_of : Request → ℕ
nodes_of q = if_le 14 q.what 0 (from 0 (part_of_image q.image) (λ s. text_of q (part_of q.image s))).nodes
