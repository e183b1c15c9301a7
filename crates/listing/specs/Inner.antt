-- What is written above the foot, and the writer of the foot. It needs no belief: a text from the start of a buffer with its foot is demand's `footed`
-- (`foot_run`, proofs/Whole.antt).
use Rattle.std.specs.Prelude.{ℕ, ◌≤◌, List, [], length, take}
use Rattle.text.specs.Output.{Output, at, refused, puts}
use Rattle.totals.specs.Totals.{totals_of}
use Rattle.volume.specs.Rule.{rule_of}
use Rattle.volume.specs.declared.Volume.{Volume}
use Rattle.lists.specs.Lists.{root_id}
use Rattle.lines.specs.Lines.{volume_line}
use Rattle.demand.specs.Trace.{Trace, says, ◌then◌}
use Rattle.demand.specs.Listing.{levels, node_form, foot_lines}
use Rattle.demand.specs.Demand.{view_of, label_shown}
use Rattle.error.specs.Answer.{Answer, Err, Ok}

-- all above the foot: the trace of a listing is this with its foot
abbrev pub body_of : List ℕ → Volume → Trace
body_of b v = says (volume_line (rule_of v).case_insensitive (rule_of v).normalization_insensitive (label_shown b v) []) then node_form (view_of b v) levels root_id

-- a position in the buffer or at its end
abbrev pub Inside : Answer ℕ → List ℕ → Type 0
Inside (Ok n) b = n ≤ length b
Inside (Err e) b = Unit

-- the totals of the text that stands before the position, and the last bracket
unfoldable pub foot_after : ℕ → Output → Output
foot_after room (at b n) = puts room (foot_lines (totals_of (take n b))) (at b n)
foot_after room (refused e) = refused e
