-- What the functions of a call leave, each before it is a result. None of it needs belief: together they are `filled_for` and `nodes_of` (`left_for_lem`,
-- `rest_for_lem`, proofs/Numbered.antt).
use Rattle.std.specs.Prelude.{ℕ, List}
use Rattle.error.specs.Answer.{Err, if_le, if_eq}
use Rattle.error.specs.declared.Refusal.TheVariants.{NotFound}
use Rattle.gpt.specs.Part.{on_part}
use Rattle.checkpoints.specs.Numbers.{numbers_at}
use Rattle.lookup.specs.declared.counted.Counted.{Counted}
use Rattle.calls.specs.Filled.{Filled, filled_by, Answered, answered}
use Rattle.listing.specs.Listed.{listed_by}
use Rattle.xid_list.specs.Listed.{xids_by}
use Rattle.part_line.specs.Line.{part_text}
use Rattle.wrong_word.specs.Mends.{mends_of, mends_in}
use Rattle.desks.specs.Requests.{Request, filled_for, nodes_of}

-- a refused listing leaves zeros
unfoldable pub left_by : ℕ → Counted (List ℕ) → List ℕ → Answered
left_by what c out = if_eq what 3 (listed_by c out) (answered c out)

-- from 14 on
unfoldable pub rest_for : ℕ → List ℕ → List ℕ → Filled
rest_for what image out =
    if_eq what 14 (xids_by (on_part numbers_at image) out)
    (if_eq what 15 (filled_by (part_text image) out)
    (if_eq what 16 (mends_in (mends_of image) out)
    (record { answer = Err NotFound; buffer = out })))

abbrev pub left_for : Request → List ℕ → Answered
left_for q out = record { nodes = nodes_of q; result = filled_for q out }
