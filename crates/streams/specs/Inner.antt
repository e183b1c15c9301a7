-- The shape of the loops over a stream's extents. A buyer may pass over this file: `settle` and `poured` are the two passes of `stream` (`stream_two`,
-- proofs/StreamLaws.antt), `chunked` does not show in it (`copy_chunks`, there), and `settled_by` and `stream_bytes` are the two of `stream_of`
-- (`settled_is`, proofs/Laws.antt; `stream_settled`, proofs/Contents.antt).
use Rattle.std.specs.Prelude.{ℕ, zero, suc, ◌+◌, ◌*◌, ◌-◌, ◌/◌, min, List, [], ◌∷◌, ◌++◌, take, drop, replicate}
use Rattle.error.specs.Answer.{Answer, Ok, Err, ◌>>=◌, if_le, if_eq}
use Rattle.error.specs.declared.Refusal.TheVariants.{Corrupt}
use Rattle.lookup.specs.declared.counted.Counted.{Counted}
use Rattle.lookup.specs.Counted.{after, onto}
use Rattle.btree.specs.Scan.{Run, more, end, refused, scan_of}
use Rattle.node.specs.declared.place.Place.{Place}
use Rattle.volume.specs.declared.Volume.{Volume}
use Rattle.records.specs.Extent.{extent_at}
use Rattle.records.specs.declared.extent.Extent.{Extent}
use Rattle.lists.specs.Lists.{search_of, extents_of}
use Rattle.extents.specs.Verdict.{Verdict, fine, ◌>>◌, at_most}
use Rattle.extents.specs.Extents.{Disk, disk_of, blocks, counted, lies}

-- ---- a list of extents

-- one extent, of which n bytes are wanted: whether it can be read, and its bytes
unfoldable pub ready : Disk → Extent → ℕ → Verdict
ready d e n = if_eq e.phys_block 0 fine (counted d e >> if_le n 0 fine (lies d e.phys_block (e.phys_block + blocks d.block n)))

-- all of them: what is refused, and the bytes
unfoldable pub settle : Disk → ℕ → ℕ → List Extent → Verdict
settle d size pos [] = fine
settle d size pos (e ∷ es) =
    let a : ℕ = min e.logical size in
    let n : ℕ = min e.len (size - a) in
    if_le size pos fine (at_most pos e.logical Corrupt (ready d e n >> settle d size (a + n) es))

unfoldable pub taken : Disk → Extent → ℕ → List ℕ
taken d e n = if_eq e.phys_block 0 (replicate n 0) (take n (drop (e.phys_block * d.block) d.image))

unfoldable pub poured : Disk → ℕ → ℕ → List Extent → List ℕ
poured d size pos [] = replicate (size - pos) 0
poured d size pos (e ∷ es) =
    let a : ℕ = min e.logical size in
    let n : ℕ = min e.len (size - a) in
    if_le size pos [] (replicate (a - pos) 0 ++ (taken d e n ++ poured d size (a + n) es))

-- the inner loop of fs.rs, `copy_dstream`: of the want bytes from block p on, those past the first `done`, at most c blocks at a time (COPY_CHUNK)
unfoldable pub chunks : Disk → ℕ → ℕ → ℕ → ℕ → ℕ → Answer (List ℕ)
chunks d c zero p done want = Ok []
chunks d c (suc fuel) p done want =
    let bs : ℕ = d.block in
    let n : ℕ = min (want - done) (c * bs) in
    let q : ℕ = p + done / bs in
    if_le want done (Ok [])
    (lies d q (q + blocks bs n) >> (chunks d c fuel p (done + n) want >>= λ y. Ok (take n (drop (q * bs) d.image) ++ y)))

unfoldable pub chunked : Disk → ℕ → ℕ → ℕ → Answer (List ℕ)
chunked d c p want = chunks d c want p 0 want

-- ---- one step of the loop

-- how many of the extent's bytes belong to the stream: `want`
unfoldable pub wanted_of : ℕ → Extent → ℕ
wanted_of size e = min e.len (size - min e.logical size)

-- `pos` after the extent: the loop ends at the first extent for which pos is at or past the size
unfoldable pub next_pos : ℕ → ℕ → Extent → ℕ
next_pos size pos e = if_le size pos pos (min e.logical size + wanted_of size e)

-- "overlapping extents in data stream" is 2; then the extent's own tests
unfoldable pub step_verdict : Disk → ℕ → ℕ → Extent → Verdict
step_verdict d size pos e = if_le size pos fine (at_most pos e.logical Corrupt (ready d e (wanted_of size e)))

-- the verdict of the extents before it, and then its own
abbrev pub step_after : Verdict → Disk → ℕ → ℕ → Extent → Verdict
step_after v d size pos e = v >> step_verdict d size pos e

-- the sparse gap before the extent, and its bytes
unfoldable pub step_bytes : Disk → ℕ → ℕ → Extent → List ℕ
step_bytes d size pos e = if_le size pos [] (replicate (min e.logical size - pos) 0 ++ taken d e (wanted_of size e))

-- ---- the extents of a search

unfoldable pub settled_by : List ℕ → Volume → ℕ → ℕ → ℕ → Counted (Unit {0})
settled_by b v object size s = onto (extents_of b v object s) λ es t. after t (settle (disk_of v.reader b) size 0 es)

abbrev pub bytes_then : Answer Extent → (Extent → List ℕ) → List ℕ
bytes_then (Ok e) k = k e
bytes_then (Err w) k = []

-- the bytes of a run of extents from pos on; none past an extent that can't be read
unfoldable pub run_bytes : (Place → Answer Extent) → Disk → ℕ → ℕ → Run → List ℕ
run_bytes f d size pos (more p s r) = bytes_then (f p) λ e. step_bytes d size pos e ++ run_bytes f d size (next_pos size pos e) r
run_bytes f d size pos (end s) = replicate (size - pos) 0
run_bytes f d size pos (refused w s) = []

-- the bytes of a stream, where it is not refused
unfoldable pub stream_bytes : List ℕ → Volume → ℕ → ℕ → ℕ → List ℕ
stream_bytes b v object size s = run_bytes (extent_at v.reader b) (disk_of v.reader b) size 0 (scan_of b (search_of v object 8) s)
