-- The lists of a volume: its inodes, directory entries, attributes and extents. Document 01, fs.rs: "Lists come an element a call, by place, the
-- whole list read first; past its end is "none""; fs.rs, `records`, `inode`, `read_dir`, `xattrs`, `extents`.
use Rattle.std.specs.Prelude.{ℕ, zero, suc, List, [], ◌∷◌}
use Rattle.std.specs.Prelude.{Option, None, Some}
use Rattle.error.specs.Answer.{Answer, Ok, Err, if_eq}
use Rattle.error.specs.declared.Refusal.TheVariants.{Unsupported, NotFound}
use Rattle.lookup.specs.declared.counted.Counted.{Counted}
use Rattle.lookup.specs.Counted.{after, from, onto}
use Rattle.lookup.specs.declared.map.Resolve.TheVariants.{Mapped}
use Rattle.btree.specs.Scan.{Run, more, end, refused, scan_of, nth}
use Rattle.btree.specs.declared.entries.Search.{Search}
use Rattle.node.specs.declared.place.Place.{Place}
use Rattle.volume.specs.declared.Volume.{Volume}
use Rattle.volume.specs.Rule.{hashed_keys}
use Rattle.records.specs.Directory.{entry_at}
use Rattle.records.specs.Attribute.{attribute_at}
use Rattle.records.specs.Extent.{extent_at}
use Rattle.inode_record.specs.Inode.{compressed, inode_at}
use Rattle.records.specs.declared.directory.Entry.{Entry}
use Rattle.records.specs.declared.attribute.Attribute.{Attribute}
use Rattle.records.specs.declared.extent.Extent.{Extent}
use Rattle.inode_record.specs.declared.inode.Inode.{Inode}

-- the records of an id and a kind in a volume's tree
abbrev pub search_of : Volume → ℕ → ℕ → Search
search_of v id kind = record { keys = record { reader = v.reader; info = v.info; id = id; kind = kind; hashed = hashed_keys v }; root = v.root; resolve = Mapped v.map }

-- all records of a run, each read by f: record after record, and the first fault counts
unfoldable pub list_of : {A : Type 0} → (Place → Answer A) → Run → Counted (List A)
list_of f (more p s r) = from s (f p) λ x. onto (list_of f r) λ xs t. after t (Ok (x ∷ xs))
list_of f (end s) = after s (Ok [])
list_of f (refused e s) = after s (Err e)

-- APFS_TYPE_DIR_REC is 9, APFS_TYPE_XATTR 4, APFS_TYPE_FILE_EXTENT 8, APFS_TYPE_INODE 3; s nodes have been gone through before
unfoldable pub entries_of : List ℕ → Volume → ℕ → ℕ → Counted (List Entry)
entries_of b v id s = list_of (entry_at (hashed_keys v) v.reader b) (scan_of b (search_of v id 9) s)

unfoldable pub attributes_of : List ℕ → Volume → ℕ → ℕ → Counted (List Attribute)
attributes_of b v id s = list_of (attribute_at v.reader b) (scan_of b (search_of v id 4) s)

unfoldable pub extents_of : List ℕ → Volume → ℕ → ℕ → Counted (List Extent)
extents_of b v id s = list_of (extent_at v.reader b) (scan_of b (search_of v id 8) s)

abbrev pub inode_met : List ℕ → Volume → ℕ → Option Place → Answer Inode
inode_met b v id (Some p) = inode_at v.reader b p id
inode_met b v id None = Err NotFound

-- the first inode record of the id, 4 where there is none
unfoldable pub inode_of : List ℕ → Volume → ℕ → ℕ → Counted Inode
inode_of b v id s = onto (nth 0 (scan_of b (search_of v id 3) s)) λ m t. after t (inode_met b v id m)

-- fs.rs, `root`; ROOT_DIR_INO_NUM
abbrev pub root_id : ℕ
root_id = 2

abbrev pub root_of : List ℕ → Volume → ℕ → Counted Inode
root_of b v s = inode_of b v root_id s

-- the element at a place, or none past the list's end
unfoldable pub element_at : {A : Type 0} → ℕ → List A → Option A
element_at k [] = None
element_at zero (x ∷ xs) = Some x
element_at (suc k) (x ∷ xs) = element_at k xs

-- an element by its place, the whole list read first
abbrev pub placed : {A : Type 0} → ℕ → Counted (List A) → Counted (Option A)
placed k c = onto c λ xs t. after t (Ok (element_at k xs))

-- document 01: "`file_extents` gives them as stored"; of a compressed file it is 3 (fs.rs, `file_extents`)
unfoldable pub file_extents : List ℕ → Volume → Inode → ℕ → ℕ → Counted (Option Extent)
file_extents b v i place s = if_eq (compressed i) 1 (after s (Err Unsupported)) (placed place (extents_of b v i.ids.private_id s))
