-- How many parts of a name were replaced, `(replaced N)`, in the listing's notation. Document 02, request 02: "Directory entries, attributes, links,
-- labels and inode names all pass that number on". Where there is no such name, nothing is written.
use Rattle.std.specs.Prelude.{ℕ, List, [], ◌∷◌}
use Rattle.std.specs.Prelude.{Option, None, Some}
use Rattle.error.specs.Answer.{Answer, Ok, Err, if_eq}
use Rattle.error.specs.declared.Refusal.TheVariants.{NotFound}
use Rattle.text.specs.Words.{ascii, digits, words}
use Rattle.lookup.specs.declared.counted.Counted.{Counted}
use Rattle.lookup.specs.Counted.{after, onto}
use Rattle.volume.specs.declared.Volume.{Volume}
use Rattle.volume.specs.declared.Which.{Which}
use Rattle.label.specs.Label.{label_reading}
use Rattle.records.specs.Directory.{entry_reading}
use Rattle.records.specs.declared.directory.Entry.{Entry}
use Rattle.records.specs.declared.attribute.Attribute.{Attribute}
use Rattle.inode_record.specs.declared.inode.Inode.{Inode}
use Rattle.lists.specs.Lists.{placed, entries_of, attributes_of, inode_of}
use Rattle.links.specs.Link.{link_reading}
use Rattle.calls.specs.OnVolume.{on_volume}
use Rattle.names.specs.declared.Name.{Name}

unfoldable pub replaced_line : ℕ → List ℕ → List ℕ
replaced_line n x = ascii "(replaced" (words (digits n ∷ []) (ascii ")\n" x))

abbrev pub name_line : Option Name → List ℕ
name_line None = []
name_line (Some n) = replaced_line n.replaced []

abbrev pub entry_line : List ℕ → Volume → Option Entry → List ℕ
entry_line image v None = []
entry_line image v (Some e) = replaced_line (entry_reading v.reader image e).replaced []

abbrev pub attribute_line : Option Attribute → List ℕ
attribute_line None = []
attribute_line (Some a) = replaced_line a.name.replaced []

-- the name in an inode's extended fields
unfoldable pub inode_on : List ℕ → Volume → ℕ → ℕ → Counted (List ℕ)
inode_on image v id s = onto (inode_of image v id s) λ i t. after t (Ok (name_line i.fields.name))

-- of the entry at a place of a directory
unfoldable pub entry_on : List ℕ → Volume → ℕ → ℕ → ℕ → Counted (List ℕ)
entry_on image v id place s = onto (placed place (entries_of image v id s)) λ o t. after t (Ok (entry_line image v o))

-- of the attribute at a place
unfoldable pub attribute_on : List ℕ → Volume → ℕ → ℕ → ℕ → Counted (List ℕ)
attribute_on image v id place s = onto (placed place (attributes_of image v id s)) λ o t. after t (Ok (attribute_line o))

-- of a symbolic link's text; its inode is read first
unfoldable pub target_on : List ℕ → Volume → Inode → ℕ → Counted (List ℕ)
target_on image v i s = onto (link_reading image v i s) λ r t. after t (Ok (replaced_line r.replaced []))

unfoldable pub link_on : List ℕ → Volume → ℕ → ℕ → Counted (List ℕ)
link_on image v id s = onto (inode_of image v id s) λ i t. target_on image v i t

-- kinds: 0 the label, 1 the inode's name, 2 an entry, 3 an attribute, 4 the link's text; 4 for any other
unfoldable pub replaced_on : List ℕ → Volume → ℕ → ℕ → ℕ → ℕ → Counted (List ℕ)
replaced_on image v kind id place s =
    if_eq kind 0 (after s (Ok (replaced_line (label_reading image v).replaced [])))
    (if_eq kind 1 (inode_on image v id s)
    (if_eq kind 2 (entry_on image v id place s)
    (if_eq kind 3 (attribute_on image v id place s)
    (if_eq kind 4 (link_on image v id s) (after s (Err NotFound))))))

-- the line of a name, with the nodes gone through: document 02, request 06
unfoldable pub replaced_counted : List ℕ → Which → ℕ → ℕ → ℕ → Counted (List ℕ)
replaced_counted image w kind id place = on_volume (λ v s. replaced_on image v kind id place s) image w

-- what `apfs_replaced` answers
abbrev pub replaced_text : List ℕ → Which → ℕ → ℕ → ℕ → Answer (List ℕ)
replaced_text image w kind id place = (replaced_counted image w kind id place).answer
