-- A GUID partition table in sectors of 512 bytes. Document 02, request 01, which the quotes are from; UEFI specification 2.10, 5.3, for the places of the fields.
use Rattle.std.specs.Prelude.{ℕ, zero, suc, ◌+◌, ◌*◌, ◌-◌, ◌/◌, ◌^◌, Bool, false, List, ◌∷◌, ◌++◌, eqb, length, take, drop}
use Rattle.std.specs.Int.Count.{ones}
use Rattle.error.specs.Answer.{Answer, Ok, Err, pick, if_le, if_eq}
use Rattle.error.specs.declared.Refusal.TheVariants.{NoPartitionTable, NoPartition}
use Rattle.byte_fields.specs.Number.{little}
use Rattle.byte_fields.specs.Part.{part_of}
use Rattle.byte_fields.specs.declared.Span.{Span}
use Rattle.crc.specs.Crc.{crc}
use Rattle.gpt.specs.declared.header.Table.{Table}

-- "CRC-32": of IEEE 802.3, reflected, from all ones, complemented at the end
abbrev pub ieee : ℕ
ieee = 0xEDB88320

unfoldable pub crc32 : List ℕ → ℕ
crc32 b = 2 ^ 32 - 1 - crc ieee (2 ^ 32 - 1) b

-- "with 512-byte sectors": the bytes of one
unfoldable pub sector_of : List ℕ → ℕ → List ℕ
sector_of image lba = part_of image (record { start = 512 * lba; len = 512 })

-- HeaderCRC32, of the first n bytes of a header: the field itself counts as zeros
unfoldable pub header_crc : List ℕ → ℕ → ℕ
header_crc h n = crc32 (take 16 h ++ 0 ∷ 0 ∷ 0 ∷ 0 ∷ take (n - 20) (drop 20 h))

-- where the entries lie: PartitionEntryLBA, NumberOfPartitionEntries, SizeOfPartitionEntry
unfoldable pub table_in : List ℕ → Table
table_in h = record { start = 512 * little 8 h 72; count = little 4 h 80; size = little 4 h 84 }

-- "its entry length 128 times a power of two": a number from 128 on with one bit set
unfoldable pub size_fits : ℕ → Bool
size_fits size = if_le 128 size (eqb (ones size) 1) false

-- the bytes of all entries
unfoldable pub array_of : List ℕ → Table → List ℕ
array_of image t = part_of image (record { start = t.start; len = t.count * t.size })

-- "its array within the image" and the array's CRC-32, PartitionEntryArrayCRC32
unfoldable pub array_intact : List ℕ → List ℕ → Bool
array_intact image h =
    let t = table_in h in
    pick (size_fits t.size) (if_le (t.start + t.count * t.size) (length image) (eqb (crc32 (array_of image t)) (little 4 h 88)) false) false

-- "its signature" ("EFI PART"), "its own sector number" (MyLBA), "its length is 92 to 512" (HeaderSize) and its CRC-32
unfoldable pub header_intact : List ℕ → ℕ → Bool
header_intact h lba =
    if_eq (little 8 h 0) 0x5452415020494645 (if_eq (little 8 h 24) lba (if_le 92 (little 4 h 12) (if_le (little 4 h 12) 512
    (eqb (header_crc h (little 4 h 12)) (little 4 h 16)) false) false) false) false

-- "A header is intact when ..; nothing else is tested": the header in the sector of that number
unfoldable pub intact : List ℕ → ℕ → Bool
intact image lba = pick (header_intact (sector_of image lba) lba) (array_intact image (sector_of image lba)) false

-- "primary header .., and the backup header, in the last whole sector, if the primary fails"; "11 when neither header is intact"
unfoldable pub table_of : List ℕ → Answer Table
table_of image =
    let last = length image / 512 - 1 in
    pick (intact image 1) (Ok (table_in (sector_of image 1)))
    (pick (intact image last) (Ok (table_in (sector_of image last))) (Err NoPartitionTable))

-- "type 7C3457EF-0000-11AA-AA11-00306543ECAC", PartitionTypeGUID, as two numbers of 64 bits (`guid`, proofs/Examples.antt)
unfoldable pub is_apfs : List ℕ → ℕ → Bool
is_apfs image place = if_eq (little 8 image place) 0x11AA00007C3457EF (eqb (little 8 image (place + 8)) 0xACEC4365300011AA) false

-- an entry's sectors, the last one included; 12 when "the entry ends before it starts or past the image"
unfoldable pub place_of : ℕ → ℕ → ℕ → Answer Span
place_of size first last =
    if_le first last
    (if_le (512 * (last + 1)) size (Ok (record { start = 512 * first; len = 512 * (last + 1 - first) })) (Err NoPartition))
    (Err NoPartition)

-- "the first entry of type .." among n from the i-th on (StartingLBA, EndingLBA); "12 when an intact table has no such entry"
unfoldable pub entry_in : List ℕ → Table → ℕ → ℕ → Answer Span
entry_in image t zero i = Err NoPartition
entry_in image t (suc n) i =
    let place = t.start + i * t.size in
    pick (is_apfs image place) (place_of (length image) (little 8 image (place + 32)) (little 8 image (place + 40))) (entry_in image t n (i + 1))
