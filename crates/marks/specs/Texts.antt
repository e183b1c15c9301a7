-- What the calls on bookmarks answer. Document 02, request 10.
use Rattle.std.specs.Prelude.{ℕ, List, []}
use Rattle.std.specs.Prelude.{Option, None, Some}
use Rattle.error.specs.Answer.{Answer, Ok, ◌>>=◌}
use Rattle.obj.specs.Block.{block_of}
use Rattle.obj.specs.declared.reader.Reader.{Reader}
use Rattle.node.specs.declared.place.Place.{Place}
use Rattle.lookup.specs.declared.counted.Counted.{Counted}
use Rattle.lookup.specs.Counted.{after, onto}
use Rattle.btree.specs.Scan.{scan_of, nth}
use Rattle.checkpoints.specs.declared.by_number.Choice.{Choice}
use Rattle.nx.specs.Open.{open_at}
use Rattle.volume.specs.declared.Volume.{Volume}
use Rattle.volume.specs.declared.Which.{Which}
use Rattle.lists.specs.Lists.{search_of}
use Rattle.calls.specs.OnVolume.{on_volume}
use Rattle.marks.specs.Mark.{mark_bytes, handed_in}
use Rattle.marks.specs.Record.{record_line}

-- nothing past the end
abbrev pub kept : Option Place → List ℕ
kept None = []
kept (Some p) = mark_bytes p

-- the bookmark of the record of an id and a kind that stands after `place` others; what stands behind it is not read
unfoldable pub mark_on : List ℕ → Volume → ℕ → ℕ → ℕ → ℕ → Counted (List ℕ)
mark_on image v id kind place s = onto (nth place (scan_of image (search_of v id kind) s)) λ o t. after t (Ok (kept o))

-- that, with the nodes gone through: document 02, request 06
unfoldable pub mark_counted : List ℕ → Which → ℕ → ℕ → ℕ → Counted (List ℕ)
mark_counted image w id kind place = on_volume (λ v s. mark_on image v id kind place s) image w

abbrev pub mark_text : List ℕ → Which → ℕ → ℕ → ℕ → Answer (List ℕ)
mark_text image w id kind place = (mark_counted image w id kind place).answer

-- the record that a bookmark leads to
unfoldable pub record_text : Reader → List ℕ → List ℕ → Answer (List ℕ)
record_text r image mark = handed_in r image mark >>= λ p. Ok (record_line (block_of r image p.block) p [])

-- the container opens first, with its own refusals; with the nodes gone through: document 02, request 06
unfoldable pub marked_counted : Choice → List ℕ → List ℕ → Counted (List ℕ)
marked_counted choice image mark = onto (open_at choice image) λ c s. after s (record_text c.reader image mark)

abbrev pub marked_text : Choice → List ℕ → List ℕ → Answer (List ℕ)
marked_text choice image mark = (marked_counted choice image mark).answer
