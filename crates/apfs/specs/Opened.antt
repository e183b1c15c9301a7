-- THE CHECKPOINT at the exported calls: what `apfs_open` and `apfs_open_at` give. Document 01, "Opening, in order", and document 02, requests 01
-- and 04. It is proved, as `apfs_opened`, in proofs/Opened.antt.
--
-- Of every image and the part of it that a container is in, where the part's block 0 is read and its descriptor area lies in it, and of every buffer:
-- either some block of the ring is the latest, and the call gives the line of the container at that checkpoint, or the refusal of
-- version 1, of Fusion, of the object map or of a buffer that is too short; or no block of the ring is a candidate, and the call gives -2. By a number
-- the same is given of the earliest candidate of that number, and -13 where there is none. A refusal leaves the buffer as it was. An image of at most
-- 2^34 bytes whose block 0 is so read is its own part; and where no part is found, the call gives minus the number of that refusal.
--
-- `Latest`, `Candidate` and `BlockZeroRead` stand in nx, specs/LatestCheckpoint.antt, `Numbered` in nx, specs/Numbers.antt, `part_of_image` in gpt,
-- specs/Part.antt. By their contracts (src/lib.rt, src/earlier.rt) `apfs_open(image, out)` gives `result_of (on_part (open_text Latest) image) out` and
-- leaves `buffer_of (on_part (open_text Latest) image) out`, and `apfs_open_at(image, x, out)` the same with `Number x`.
use Rattle.std.specs.Prelude.{ℕ, ◌/◌, ◌%◌, ◌^◌, ◌≤◌, ◌<◌, ◌≡◌, ◌⊎◌, List, [], ◌∷◌, ◌++◌, ℤ, pos, length, drop}
use Rattle.error.specs.Answer.{Answer, Ok, Err, number_of}
use Rattle.error.specs.declared.Refusal.{Refusal}
use Rattle.byte_fields.specs.Part.{part_of}
use Rattle.byte_fields.specs.declared.Span.{Span}
use Rattle.gpt.specs.Part.{part_of_image, on_part}
use Rattle.text.specs.Words.{ascii, digits, words}
use Rattle.lookup.specs.declared.map.Map.{Map}
use Rattle.omap.specs.Load.{map_at}
use Rattle.checkpoints.specs.declared.superblock.Superblock.{Superblock}
use Rattle.checkpoints.specs.declared.by_number.Choice.{Choice}
use Rattle.checkpoints.specs.declared.by_number.Choice.TheVariants as choice
use Rattle.nx.specs.Slots.{volumes_of}
use Rattle.nx.specs.LatestCheckpoint.{block_zero, BlockZeroRead, superblock_of, Candidate, Latest}
use Rattle.nx.specs.Numbers.{Numbered}
use Rattle.container_line.specs.Container.{number_words, open_text}
use Rattle.results.specs.Call.{minus, result_of, buffer_of}

-- the call is refused with a number
abbrev pub Refused : List ℕ → ℤ → List ℕ → ℕ → Type 0
Refused out result buffer n = (result ≡ minus n) × (buffer ≡ out)

module _ (image : List ℕ) (i : ℕ) where
  -- the superblock in the i-th block of the ring
  abbrev pub superblock : Superblock
  superblock = superblock_of image (block_zero image) i

  -- NX_INCOMPAT_VERSION1 0x1, NX_INCOMPAT_FUSION 0x100
  abbrev pub Unsupported : Type 0
  Unsupported = (superblock.incompat % 2 ≡ 1) ⊎ (superblock.incompat / 256 % 2 ≡ 1)

  -- its object map, at its transaction number
  abbrev pub object_map : Answer Map
  object_map = (map_at (block_zero image).reader image superblock.omap_oid superblock.xid 0).answer

  -- `(container BLOCK_SIZE BLOCK_COUNT XID OID ..)` and LF, with the object ids of the volumes
  abbrev pub line : List ℕ
  line =
      ascii "(container" (words (digits (block_zero image).reader.block_size ∷ digits (block_zero image).reader.block_count ∷ digits superblock.xid ∷ [])
      (number_words (volumes_of image superblock) (ascii ")\n" [])))

-- which block of the ring a container is opened at: the one that is taken of those that are asked for; where there is none, the refusal's number
pub record Taking : Type 1 where
  pub Asked : ℕ → Type 0
  pub Taken : ℕ → Type 0
  pub none : ℕ

-- "No accepted candidate: 2"
abbrev pub at_latest : List ℕ → Taking
at_latest image = record { Asked = Candidate image (block_zero image); Taken = Latest image (block_zero image); none = 2 }

-- "taking the earliest of equals"; "13 when no accepted candidate has that number"
abbrev pub at_number : List ℕ → ℕ → Taking
at_number image x = record {
  Asked = Numbered image (block_zero image) x;
  Taken = λ i. Numbered image (block_zero image) x i × ((j : ℕ) → Numbered image (block_zero image) x j → i ≤ j);
  none = 13;
}

pub data Gives (image out : List ℕ) (t : Taking) (result : ℤ) (buffer : List ℕ) : Type 0 where
  -- "Version 1, then Fusion: 3"
  unsupported : (i : ℕ) → t.Taken i → Unsupported image i → Refused out result buffer 3 → Gives image out t result buffer
  -- "Then the object map"
  no_map : (i : ℕ) → t.Taken i → (Unsupported image i → ⊥) → (e : Refusal) → object_map image i ≡ Err e
      → Refused out result buffer (number_of e) → Gives image out t result buffer
  -- "6 (added) buffer shorter than the answer"
  too_short : (i : ℕ) → t.Taken i → (Unsupported image i → ⊥) → (m : Map) → object_map image i ≡ Ok m
      → length out < length (line image i) → Refused out result buffer 6 → Gives image out t result buffer
  -- "Success writes nothing past its answer"
  written : (i : ℕ) → t.Taken i → (Unsupported image i → ⊥) → (m : Map) → object_map image i ≡ Ok m
      → length (line image i) ≤ length out → result ≡ pos (length (line image i)) → buffer ≡ line image i ++ drop (length (line image i)) out
      → Gives image out t result buffer
  no_candidate : ((i : ℕ) → t.Asked i → ⊥) → Refused out result buffer t.none → Gives image out t result buffer

-- the call on an image
abbrev pub Given : List ℕ → List ℕ → Choice → Taking → List ℕ → Type 0
Given image out choice t part = Gives part out t (result_of (on_part (open_text choice) image) out) (buffer_of (on_part (open_text choice) image) out)

pub record ApfsOpened : Type 0 where
  pub call : (image out : List ℕ) (s : Span) → part_of_image image ≡ Ok s → BlockZeroRead (part_of image s)
      → Given image out choice.Latest (at_latest (part_of image s)) (part_of image s)
  pub call_at : (image out : List ℕ) (x : ℕ) (s : Span) → part_of_image image ≡ Ok s → BlockZeroRead (part_of image s)
      → Given image out (choice.Number x) (at_number (part_of image s) x) (part_of image s)
  -- an image with NXSB at byte 32
  pub call_whole : (image out : List ℕ) → length image ≤ 2 ^ 34 → BlockZeroRead image → Given image out choice.Latest (at_latest image) image
  pub call_whole_at : (image out : List ℕ) (x : ℕ) → length image ≤ 2 ^ 34 → BlockZeroRead image → Given image out (choice.Number x) (at_number image x) image
  pub no_part : (image out : List ℕ) (c : Choice) (e : Refusal) → part_of_image image ≡ Err e
      → Refused out (result_of (on_part (open_text c) image) out) (buffer_of (on_part (open_text c) image) out) (number_of e)
