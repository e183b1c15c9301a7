-- The line of an attribute with its contents, by its place, in the listing's notation: document 01, "The listing (added)". Of a list, "past its
-- end is "none"": nothing is written.
use Rattle.std.specs.Prelude.{ℕ, List, []}
use Rattle.std.specs.Prelude.{Option, None, Some}
use Rattle.error.specs.Answer.{Answer, Ok}
use Rattle.lookup.specs.declared.counted.Counted.{Counted}
use Rattle.lookup.specs.Counted.{after, onto}
use Rattle.volume.specs.declared.Volume.{Volume}
use Rattle.volume.specs.declared.Which.{Which}
use Rattle.records.specs.declared.attribute.Attribute.{Attribute}
use Rattle.records.specs.declared.attribute.StreamData.{StreamData}
use Rattle.lists.specs.Lists.{placed, attributes_of}
use Rattle.streams.specs.Streams.{stream_of}
use Rattle.links.specs.Link.{contents_of}
use Rattle.lines.specs.Shown.{attribute_shown}
use Rattle.lines.specs.Lines.{attribute_line}
use Rattle.calls.specs.OnVolume.{on_volume}

-- a line with a stream's contents
unfoldable pub streamed_of : List ℕ → Volume → Attribute → StreamData → ℕ → Counted (List ℕ)
streamed_of image v a d s = onto (stream_of image v d.object d.size s) λ c t. after t (Ok (attribute_line (attribute_shown v.reader image a c) []))

unfoldable pub attribute_of : List ℕ → Volume → Attribute → ℕ → Counted (List ℕ)
attribute_of image v a s = onto (contents_of image v a s) λ c t. after t (Ok (attribute_line (attribute_shown v.reader image a c) []))

abbrev pub attribute_show : List ℕ → Volume → Option Attribute → ℕ → Counted (List ℕ)
attribute_show image v None s = after s (Ok [])
attribute_show image v (Some a) s = attribute_of image v a s

unfoldable pub attribute_on : List ℕ → Volume → ℕ → ℕ → ℕ → Counted (List ℕ)
attribute_on image v id place s = onto (placed place (attributes_of image v id s)) λ o t. attribute_show image v o t

-- the line of an attribute by its place, with the nodes gone through: document 02, request 06
unfoldable pub attribute_counted : List ℕ → Which → ℕ → ℕ → Counted (List ℕ)
attribute_counted image w id place = on_volume (λ v s. attribute_on image v id place s) image w

-- what `apfs_xattr` answers
abbrev pub attribute_text : List ℕ → Which → ℕ → ℕ → Answer (List ℕ)
attribute_text image w id place = (attribute_counted image w id place).answer
