-- The shape of the loop that settles a file's contents. A buyer may pass over this file: `whole_by` is `settled_whole` (`whole_is`, proofs/Plain.antt), and
-- where it is fine the bytes of the file are those that a stream pours (`plain_settled`, there).
use Rattle.std.specs.Prelude.{ℕ, List}
use Rattle.error.specs.declared.Refusal.TheVariants.{Corrupt}
use Rattle.lookup.specs.declared.counted.Counted.{Counted}
use Rattle.lookup.specs.Counted.{after, onto}
use Rattle.btree.specs.Scan.{Run, scan_of}
use Rattle.btree.specs.declared.entries.Search.{Search}
use Rattle.volume.specs.declared.Volume.{Volume}
use Rattle.records.specs.Extent.{extent_at}
use Rattle.records.specs.declared.extent.Extent.{Extent}
use Rattle.inode_record.specs.declared.inode.Inode.{Inode}
use Rattle.lists.specs.Lists.{search_of, list_of}
use Rattle.extents.specs.Verdict.{Verdict, fine, ◌>>◌, at_most}
use Rattle.extents.specs.Extents.{Disk, disk_of, end, apart}
use Rattle.extents.specs.Inner.{judge_of}
use Rattle.files.specs.File.{size_of}

-- an extent after the last one, which was judged as v
abbrev pub apart_after : Verdict → Extent → Extent → Verdict
apart_after v last e = v >> at_most (end last) e.logical Corrupt fine

-- no extent of a run starts before its predecessor's end
unfoldable pub apart_of : List ℕ → Search → Run → Counted (Unit {0})
apart_of b q r = onto (list_of (extent_at q.keys.reader b) r) λ es t. after t (apart es)

-- what the whole read of a file of that size refuses
unfoldable pub whole_verdict : Disk → ℕ → List Extent → Verdict
whole_verdict d size es = apart es >> judge_of d 0 size es

unfoldable pub whole_over : List ℕ → Search → ℕ → Run → Counted (Unit {0})
whole_over b q size r = onto (list_of (extent_at q.keys.reader b) r) λ es t. after t (whole_verdict (disk_of q.keys.reader b) size es)

-- the same of a file's extents
unfoldable pub whole_from : List ℕ → Volume → Inode → Run → Counted (Unit {0})
whole_from b v i r = whole_over b (search_of v i.ids.private_id 8) (size_of i) r

unfoldable pub whole_by : List ℕ → Volume → Inode → ℕ → Counted (Unit {0})
whole_by b v i s = whole_from b v i (scan_of b (search_of v i.ids.private_id 8) s)
