-- A file read over a list of extents: what is refused, and the bytes. Document 01, "Records", "Reads: ..", and "Answers other than success";
-- fs.rs, `read_extents_at`.
use Rattle.std.specs.Prelude.{ℕ, zero, suc, ◌+◌, ◌*◌, ◌-◌, min, List, [], ◌∷◌, get_or}
use Rattle.error.specs.Answer.{Answer, Ok, if_le, if_eq}
use Rattle.extents.specs.Verdict.{◌>>◌}
use Rattle.extents.specs.Extents.{Disk, end, ascending, apart, since, decide}
use Rattle.records.specs.declared.extent.Extent.{Extent}

-- what stands at place i of the file once e is laid over z
unfoldable pub over : Disk → ℕ → Extent → ℕ → ℕ
over d i e z =
    if_le e.logical i
    (if_le (end e) i z (if_eq e.phys_block 0 z (get_or d.image (e.phys_block * d.block + (i - e.logical)) 0)))
    z

-- the same, once each of es is laid over what was there before
unfoldable pub byte_at : Disk → ℕ → List Extent → ℕ → ℕ
byte_at d i [] z = z
byte_at d i (e ∷ es) z = byte_at d i es (over d i e z)

-- f at the n places from i on
unfoldable pub span : (ℕ → ℕ) → ℕ → ℕ → List ℕ
span f i zero = []
span f i (suc n) = f i ∷ span f (i + 1) n

-- n bytes of the file from off on; document 01: "it starts as zeros, and extents .. are copied"
unfoldable pub bytes : Disk → List Extent → ℕ → ℕ → List ℕ
bytes d es off n = span (λ i. byte_at d i (since off es) 0) off n

-- a read of len bytes from off on, of a file of a size. Document 01: descending starts are "tested once all are read and before the size",
-- "offset at or past the size .. gives 0 bytes"
unfoldable pub read_at : Disk → ℕ → List Extent → ℕ → ℕ → Answer (List ℕ)
read_at d size es off len =
    let n : ℕ = min len (size - off) in
    ascending es >> if_le size off (Ok []) (decide d off (off + n) (since off es) >> Ok (bytes d es off n))

-- the whole file, as the listing reads it: first the test on ends, of every extent and whatever the size; then a read of all bytes
unfoldable pub read_all : Disk → ℕ → List Extent → Answer (List ℕ)
read_all d size es = apart es >> read_at d size es 0 size
