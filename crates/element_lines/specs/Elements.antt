-- The line of an inode by its path, and of an entry and an extent by their place, in the listing's notation: document 01, "The listing (added)".
-- Of a list, "past its end is "none"": nothing is written.
use Rattle.std.specs.Prelude.{ℕ, List, []}
use Rattle.std.specs.Prelude.{Option, None, Some}
use Rattle.error.specs.Answer.{Answer, Ok}
use Rattle.lookup.specs.declared.counted.Counted.{Counted}
use Rattle.lookup.specs.Counted.{after, onto}
use Rattle.volume.specs.declared.Volume.{Volume}
use Rattle.volume.specs.declared.Which.{Which}
use Rattle.records.specs.declared.directory.Entry.{Entry}
use Rattle.records.specs.declared.extent.Extent.{Extent}
use Rattle.inode_record.specs.declared.inode.Inode.{Inode}
use Rattle.lists.specs.Lists.{placed, entries_of, file_extents, inode_of}
use Rattle.paths.specs.Lookup.{lookup_path}
use Rattle.lines.specs.Shown.{inode_shown, entry_shown}
use Rattle.lines.specs.Lines.{node_line, entry_line, extent_line}
use Rattle.calls.specs.OnVolume.{on_volume}

abbrev pub entry_show : List ℕ → Volume → Option Entry → List ℕ
entry_show image v None = []
entry_show image v (Some e) = entry_line (entry_shown v.reader image e) []

unfoldable pub entry_on : List ℕ → Volume → ℕ → ℕ → ℕ → Counted (List ℕ)
entry_on image v id place s = onto (placed place (entries_of image v id s)) λ o t. after t (Ok (entry_show image v o))

-- the line of an entry by its place, with the nodes gone through: document 02, request 06
unfoldable pub entry_counted : List ℕ → Which → ℕ → ℕ → Counted (List ℕ)
entry_counted image w id place = on_volume (λ v s. entry_on image v id place s) image w

-- what `apfs_entry` answers
abbrev pub entry_text : List ℕ → Which → ℕ → ℕ → Answer (List ℕ)
entry_text image w id place = (entry_counted image w id place).answer

unfoldable pub lookup_on : List ℕ → Volume → List ℕ → ℕ → Counted (List ℕ)
lookup_on image v path s = onto (lookup_path image v path s) λ i t. after t (Ok (node_line (inode_shown v.reader image i) []))

-- the line of an inode by its path, with the nodes gone through: document 02, request 06
unfoldable pub lookup_counted : List ℕ → Which → List ℕ → Counted (List ℕ)
lookup_counted image w path = on_volume (λ v s. lookup_on image v path s) image w

-- what `apfs_lookup` answers
abbrev pub lookup_text : List ℕ → Which → List ℕ → Answer (List ℕ)
lookup_text image w path = (lookup_counted image w path).answer

abbrev pub extent_show : Option Extent → List ℕ
extent_show None = []
extent_show (Some e) = extent_line e []

-- of an inode that was read (fs.rs, `file_extents`)
unfoldable pub extent_of : List ℕ → Volume → Inode → ℕ → ℕ → Counted (List ℕ)
extent_of image v i place s = onto (file_extents image v i place s) λ o t. after t (Ok (extent_show o))

unfoldable pub extent_on : List ℕ → Volume → ℕ → ℕ → ℕ → Counted (List ℕ)
extent_on image v id place s = onto (inode_of image v id s) λ i t. extent_of image v i place t

-- the line of an extent by its place, with the nodes gone through: document 02, request 06
unfoldable pub extent_counted : List ℕ → Which → ℕ → ℕ → Counted (List ℕ)
extent_counted image w id place = on_volume (λ v s. extent_on image v id place s) image w

-- what `apfs_extent` answers
abbrev pub extent_text : List ℕ → Which → ℕ → ℕ → Answer (List ℕ)
extent_text image w id place = (extent_counted image w id place).answer
