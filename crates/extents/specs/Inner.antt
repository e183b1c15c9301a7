-- The shape of the two walks over a file's extents. A buyer may pass over this file: what `judge` refuses, `judge_of`, is proved to be what `read_at` refuses
-- (`read_judged`, crates/files/proofs/FileLaws.antt).
use Rattle.std.specs.Prelude.{ℕ, ◌≡◌, false, List}
use Rattle.error.specs.Answer.{Ok, Err, pick, if_le}
use Rattle.error.specs.declared.Refusal.TheVariants.{Corrupt}
use Rattle.lookup.specs.declared.counted.Counted.{Counted}
use Rattle.lookup.specs.Counted.{after, onto}
use Rattle.btree.specs.Scan.{Run}
use Rattle.btree.specs.declared.entries.Search.{Search}
use Rattle.cursor.specs.Left.{run_at}
use Rattle.records.specs.Extent.{extent_at}
use Rattle.records.specs.declared.extent.Extent.{Extent}
use Rattle.lists.specs.Lists.{list_of}
use Rattle.lists.specs.Inner.{readable}
use Rattle.extents.specs.Verdict.{Verdict, fine, ◌>>◌}
use Rattle.extents.specs.Extents.{Disk, disk_of, ascending, since, allows, decide}
use Rattle.extents.specs.declared.deciding.Judging.{Judging}
use Rattle.extents.specs.declared.deciding.Judged.{Judged}

-- an extent that starts at or past stop is not looked at (fs.rs, `read_extents_at`: `if e.logical >= end`)
unfoldable pub touches : Disk → ℕ → ℕ → Extent → Verdict
touches d off stop e = if_le stop e.logical fine (allows d off stop e)

-- what is refused: descending starts first, then what the extents from the last at or before off on refuse
unfoldable pub judge_of : Disk → ℕ → ℕ → List Extent → Verdict
judge_of d off stop es = ascending es >> decide d off stop (since off es)

-- what j becomes by one extent more: a start at or before off begins the verdict anew
pub record OneMore (d : Disk) (off stop : ℕ) (j : Judging) (e : Extent) (r : Judging) : Type 0 where
  pub last : r.last ≡ e.logical
  pub rises : r.rises ≡ if_le j.last e.logical j.rises false
  pub ruling : r.ruling ≡ if_le e.logical off (touches d off stop e) (j.ruling >> touches d off stop e)

-- what j says at the end
abbrev pub closing : Judging → Verdict
closing j = pick j.rises j.ruling (Err Corrupt)

-- what the pass answers: what it refuses, or else the extents from its kept entry on
abbrev pub judged_told : List ℕ → Search → Judged → Counted (List Extent)
judged_told b q r = after r.nodes (r.ruling >> Ok (readable (extent_at q.keys.reader b) (run_at b q r.kept r.from)))

-- that is: all extents of a run are read, then judged, and those from the last at or before off on are given
unfoldable pub judged_of : List ℕ → Search → ℕ → ℕ → Run → Counted (List Extent)
judged_of b q off stop r = onto (list_of (extent_at q.keys.reader b) r) λ es t. after t (judge_of (disk_of q.keys.reader b) off stop es >> Ok (since off es))
