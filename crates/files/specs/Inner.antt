-- The shape of the copying pass. A buyer may pass over this file: `lay` over zeros is what `bytes` says (`lay_start`, proofs/CopyLaws.antt), and `read_over` over
-- the extents of a file is what `read_file` says (`file_read`, proofs/FileLaws.antt).
use Rattle.std.specs.Prelude.{ℕ, ◌+◌, ◌-◌, ◌≡◌, List, length, get_or}
use Rattle.error.specs.Answer.{if_le}
use Rattle.lookup.specs.declared.counted.Counted.{Counted}
use Rattle.lookup.specs.Counted.{after, onto}
use Rattle.btree.specs.Scan.{scan_of}
use Rattle.btree.specs.declared.entries.Search.{Search}
use Rattle.records.specs.Extent.{extent_at}
use Rattle.records.specs.declared.extent.Extent.{Extent}
use Rattle.lists.specs.Lists.{list_of}
use Rattle.extents.specs.Verdict.{fine}
use Rattle.extents.specs.Extents.{Disk, disk_of, ascending, decide}
use Rattle.files.specs.Read.{byte_at, span, read_at}

-- the buffer b, which holds the bytes of the file from off on, once es are copied over it
unfoldable pub lay : Disk → ℕ → List Extent → List ℕ → List ℕ
lay d off es b = span (λ i. byte_at d i es (get_or b (i - off) 0)) off (length b)

-- the extents were decided upon, and their starts ascend
pub record Ready (d : Disk) (off stop : ℕ) (es : List Extent) : Type 0 where
  pub decided : decide d off stop es ≡ fine
  pub rising : ascending es ≡ fine

-- a read over the extents that a search gives, s nodes having been gone through: "all are read" first (fs.rs, `read_extents_at`)
unfoldable pub read_over : List ℕ → Search → ℕ → ℕ → ℕ → ℕ → Counted (List ℕ)
read_over b q size off len s = onto (list_of (extent_at q.keys.reader b) (scan_of b q s)) λ es t. after t (read_at (disk_of q.keys.reader b) size es off len)

-- where a read of n bytes from off on stops: nothing is looked at where off is at or past the size
abbrev pub stop_of : ℕ → ℕ → ℕ → ℕ
stop_of size off n = if_le size off 0 (off + n)
