-- What is refused of a file's extents. Document 01, "Records", "Reads: ..", and "Answers other than success"; fs.rs, `read_extents_at`.
use Rattle.std.specs.Prelude.{ℕ, ◌+◌, ◌*◌, ◌-◌, ◌/◌, ◌^◌, min, max, List, [], ◌∷◌, length}
use Rattle.error.specs.Answer.{if_le, if_eq}
use Rattle.error.specs.declared.Refusal.TheVariants.{Io, Corrupt, Overflow}
use Rattle.obj.specs.declared.reader.Reader.{Reader}
use Rattle.extents.specs.Verdict.{Verdict, fine, ◌>>◌, at_most}
use Rattle.records.specs.declared.extent.Extent.{Extent}

-- an image in blocks of a size, so many of which belong to the container
pub record Disk : Type 0 where
  pub image : List ℕ
  pub block : ℕ
  pub count : ℕ

-- the disk of a reader (nx.rs, `Reader`). An opened container's blocks have 4,096 bytes or more; in a reader that nobody opened, a size of 0 is taken for 1
abbrev pub disk_of : Reader → List ℕ → Disk
disk_of r b = record { image = b; block = max 1 r.block_size; count = r.block_count }

abbrev pub start : Extent → ℕ
start e = e.logical

abbrev pub end : Extent → ℕ
end e = e.logical + e.len

-- the largest 64-bit number; document 01: "8 (added) an unchecked Rust sum or product passes 2^64 − 1"
abbrev pub top : ℕ
top = 2 ^ 64 - 1

-- how many blocks of bs bytes hold n bytes (fs.rs, `div_ceil`)
unfoldable pub blocks : ℕ → ℕ → ℕ
blocks bs n = (n + (bs - 1)) / bs

-- each extent starts at or past what `mark` says of the one before it
unfoldable pub in_order : (Extent → ℕ) → ℕ → List Extent → Verdict
in_order mark at [] = fine
in_order mark at (e ∷ es) = at_most at e.logical Corrupt (in_order mark (mark e) es)

-- document 01: "2 (added) in a file read, extents whose starts descend .."
abbrev pub ascending : List Extent → Verdict
ascending es = in_order start 0 es

-- "..; in a listing, also one that starts before its predecessor's end"
abbrev pub apart : List Extent → Verdict
apart es = in_order end 0 es

-- document 01: "extents from the last at or before the offset on"; all of them, where none is (fs.rs, `partition_point`)
unfoldable pub seek : ℕ → List Extent → List Extent → List Extent
seek off best [] = best
seek off best (e ∷ es) = if_le e.logical off (seek off (e ∷ es) es) best

abbrev pub since : ℕ → List Extent → List Extent
since off es = seek off es es

-- document 01: "an extent ending past the block count is 2 where touched"
unfoldable pub counted_in : ℕ → ℕ → Extent → Verdict
counted_in bs count e =
    let n : ℕ = e.phys_block + blocks bs e.len in
    at_most n top Overflow (at_most n count Corrupt fine)

abbrev pub counted : Disk → Extent → Verdict
counted d e = counted_in d.block d.count e

-- document 01: "Whole blocks must lie in the image, else 1": those from p up to q
unfoldable pub lies : Disk → ℕ → ℕ → Verdict
lies d p q = at_most (p * d.block) top Overflow (at_most (q * d.block) (length d.image) Io fine)

-- e's own bytes from its a-th up to its b-th can be read
unfoldable pub reach : Disk → Extent → ℕ → ℕ → Verdict
reach d e a b = counted d e >> lies d (e.phys_block + a / d.block) (e.phys_block + blocks d.block b)

-- whether e's part of the file's bytes from off up to stop may be read; document 01: "physical block 0 skipped"
unfoldable pub allows : Disk → ℕ → ℕ → Extent → Verdict
allows d off stop e =
    let a : ℕ = max off e.logical in
    let b : ℕ = min stop (end e) in
    at_most (end e) top Overflow
    (if_le b a fine
    (if_eq e.phys_block 0 fine
    (reach d e (a - e.logical) (b - e.logical))))

-- the loop of fs.rs, `read_extents_at`: it ends at an extent that starts at or past stop
unfoldable pub decide : Disk → ℕ → ℕ → List Extent → Verdict
decide d off stop [] = fine
decide d off stop (e ∷ es) = if_le stop e.logical fine (allows d off stop e >> decide d off stop es)
