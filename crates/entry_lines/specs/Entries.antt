-- The lines of a directory's entries from a place on, as many as fit a buffer. Document 01, "The listing (added)": "(entry ID DATE KIND NAME"; fs.rs:
-- "the whole list read first; past its end is "none"": nothing is written; "6 (added) buffer shorter than the answer", where not even the first
-- line fits.
use Rattle.std.specs.Prelude.{ℕ, ◌-◌, List, [], ◌∷◌, ◌++◌, map, length, drop}
use Rattle.error.specs.Answer.{Answer, Ok, Err, if_le}
use Rattle.error.specs.declared.Refusal.TheVariants.{BufferTooShort}
use Rattle.lookup.specs.declared.counted.Counted.{Counted}
use Rattle.lookup.specs.Counted.{after, onto}
use Rattle.obj.specs.declared.reader.Reader.{Reader}
use Rattle.volume.specs.declared.Volume.{Volume}
use Rattle.volume.specs.declared.Which.{Which}
use Rattle.records.specs.declared.directory.Entry.{Entry}
use Rattle.lists.specs.Lists.{entries_of}
use Rattle.lines.specs.Shown.{entry_shown}
use Rattle.lines.specs.Lines.{entry_line}
use Rattle.calls.specs.OnVolume.{on_volume}

abbrev pub lines_of : Reader → List ℕ → List Entry → List (List ℕ)
lines_of r image es = map (λ e. entry_line (entry_shown r image e) []) es

-- the longest run of whole lines, from the first on, that is no longer than the room
unfoldable pub fitting : ℕ → List (List ℕ) → List ℕ
fitting room [] = []
fitting room (t ∷ ts) = if_le (length t) room (t ++ fitting (room - length t) ts) []

-- that, but 6 where there is a first line and it does not fit
unfoldable pub fitting_some : ℕ → List (List ℕ) → Answer (List ℕ)
fitting_some room [] = Ok []
fitting_some room (t ∷ ts) = if_le (length t) room (Ok (fitting room (t ∷ ts))) (Err BufferTooShort)

unfoldable pub entries_on : List ℕ → Volume → ℕ → ℕ → ℕ → ℕ → Counted (List ℕ)
entries_on image v id place room s = onto (entries_of image v id s) λ es t. after t (fitting_some room (lines_of v.reader image (drop place es)))

-- the lines that fit, with the nodes gone through: document 02, request 06
unfoldable pub entries_counted : List ℕ → Which → ℕ → ℕ → ℕ → Counted (List ℕ)
entries_counted image w id place room = on_volume (λ v s. entries_on image v id place room s) image w

-- what `apfs_entries` answers
abbrev pub entries_text : List ℕ → Which → ℕ → ℕ → ℕ → Answer (List ℕ)
entries_text image w id place room = (entries_counted image w id place room).answer
