-- A data stream's bytes, in the order in which they are read (fs.rs, `copy_dstream`).
use Rattle.std.specs.Prelude.{ℕ, ◌+◌, ◌*◌, ◌-◌, min, List, [], ◌∷◌, ◌++◌, take, drop, replicate}
use Rattle.error.specs.Answer.{Answer, Ok, ◌>>=◌, if_le, if_eq}
use Rattle.error.specs.declared.Refusal.TheVariants.{Corrupt}
use Rattle.extents.specs.Verdict.{◌>>◌, at_most}
use Rattle.extents.specs.Extents.{Disk, blocks, counted, lies}
use Rattle.records.specs.declared.extent.Extent.{Extent}

-- n bytes from block p on; document 01, "Records": "Whole blocks must lie in the image, else 1"
unfoldable pub piece : Disk → ℕ → ℕ → Answer (List ℕ)
piece d p n = if_le n 0 (Ok []) (lies d p (p + blocks d.block n) >> Ok (take n (drop (p * d.block) d.image)))

-- the first n bytes of e; `read` says how those of an extent that is not sparse are read. The block count is tested also where n is 0
unfoldable pub fetch : (ℕ → ℕ → Answer (List ℕ)) → Disk → Extent → ℕ → Answer (List ℕ)
fetch read d e n = if_eq e.phys_block 0 (Ok (replicate n 0)) (counted d e >> read e.phys_block n)

-- the bytes from pos on: a gap and what no extent has are zeros; an extent that starts before pos is 2 (fs.rs, "overlapping extents in data stream")
unfoldable pub stream_by : (ℕ → ℕ → Answer (List ℕ)) → Disk → ℕ → ℕ → List Extent → Answer (List ℕ)
stream_by read d size pos [] = Ok (replicate (size - pos) 0)
stream_by read d size pos (e ∷ es) =
    let a : ℕ = min e.logical size in
    let n : ℕ = min e.len (size - a) in
    if_le size pos (Ok [])
    (at_most pos e.logical Corrupt
    (fetch read d e n >>= λ x. stream_by read d size (a + n) es >>= λ y. Ok (replicate (a - pos) 0 ++ (x ++ y))))

unfoldable pub stream : Disk → ℕ → List Extent → Answer (List ℕ)
stream d size es = stream_by (piece d) d size 0 es
