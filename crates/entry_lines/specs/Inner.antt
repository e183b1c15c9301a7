-- The shape of the loop over the entries; no promise to a caller rests on these. Line after line, `filled_from` writes `fitting` of the lines
-- (`lines_start`, `lines_next`, `lines_full` and `lines_over`, proofs/Fitting.antt), and `entries_from` is `entries_on` (proofs/Steps.antt).
use Rattle.std.specs.Prelude.{ℕ, ◌+◌, List, [], length}
use Rattle.std.proofs.lemmas.List.Edits.{sets}
use Rattle.error.specs.Answer.{Ok, Err, if_le}
use Rattle.error.specs.declared.Refusal.TheVariants.{BufferTooShort}
use Rattle.obj.specs.declared.reader.Reader.{Reader}
use Rattle.records.specs.declared.directory.Entry.{Entry}
use Rattle.lines.specs.Shown.{entry_shown}
use Rattle.lines.specs.Lines.{entry_line}
use Rattle.calls.specs.Filled.{Filled, filled}
use Rattle.entry_lines.specs.Entries.{lines_of, fitting}

-- what is written of an entry, of which `left` are still to be passed
unfoldable pub line_at : Reader → List ℕ → ℕ → Entry → List ℕ
line_at r image left e = if_le left 0 (entry_line (entry_shown r image e) []) []

-- a text after n bytes, where it fits
unfoldable pub filled_from : ℕ → ℕ → List ℕ → List ℕ → Filled
filled_from room n t b =
    if_le (n + length t) room
    (record { answer = Ok (n + length t); buffer = sets b n t })
    (record { answer = Err BufferTooShort; buffer = b })

-- the lines of es, of which e is the first
unfoldable pub entries_from : Reader → List ℕ → Entry → List Entry → List ℕ → Filled
entries_from r image e es b =
    if_le (length (entry_line (entry_shown r image e) [])) (length b)
    (filled (fitting (length b) (lines_of r image es)) b)
    (record { answer = Err BufferTooShort; buffer = b })
