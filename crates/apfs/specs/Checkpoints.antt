-- THE LIST OF CHECKPOINTS at the exported call: what `apfs_checkpoints` gives. Document 02, request 04. It is proved, as `apfs_checkpoints`, in
-- proofs/Checkpoints.antt.
--
-- Of every image and the part of it that a container is in, where the part's block 0 is read and its descriptor area lies in it, and of every buffer:
-- the call gives how many numbers there are, and the buffer begins with them, 8 bytes each, greatest first, each as often as there are candidates of it;
-- or -6 where they do not fit, or -2 where there is no candidate. A refusal leaves the buffer as it was. An image of at most 2^34 bytes whose block 0 is
-- so read is its own part; and where no part is found, the call gives minus the number of that refusal.
--
-- `Candidate` and `BlockZeroRead` stand in nx, specs/LatestCheckpoint.antt, `Descends`, `times`, `HowMany` and `Numbered` in nx, specs/Numbers.antt,
-- `bytes_of` in xid_list, specs/Listed.antt. By its contract (src/earlier.rt) `apfs_checkpoints(image, out)` gives
-- `number (xids_by (on_part numbers_at image) out).answer` and leaves `(xids_by (on_part numbers_at image) out).buffer`.
use Rattle.std.specs.Prelude.{ℕ, ◌*◌, ◌^◌, ◌≤◌, ◌<◌, ◌≡◌, List, ◌++◌, ℤ, pos, length, drop}
use Rattle.error.specs.Answer.{Ok, Err, number_of}
use Rattle.error.specs.declared.Refusal.{Refusal}
use Rattle.byte_fields.specs.Part.{part_of}
use Rattle.byte_fields.specs.declared.Span.{Span}
use Rattle.gpt.specs.Part.{part_of_image, on_part}
use Rattle.checkpoints.specs.Numbers.{numbers_at}
use Rattle.nx.specs.LatestCheckpoint.{block_zero, BlockZeroRead, Candidate}
use Rattle.nx.specs.Numbers.{Descends, times, HowMany, Numbered}
use Rattle.xid_list.specs.Listed.{bytes_of, xids_by}
use Rattle.results.specs.Call.{number}
use Rattle.apfs.specs.Opened.{Refused}

-- "the transaction numbers of all accepted checkpoints", "greatest first, repeats kept"
pub record Whole (image l : List ℕ) : Type 0 where
  pub descends : Descends l
  pub repeats : (x : ℕ) → HowMany (Numbered image (block_zero image) x) 0 (block_zero image).ring (times x l)

pub data GivesList (image out : List ℕ) (result : ℤ) (buffer : List ℕ) : Type 0 where
  -- "in a lent buffer, 8 bytes each", "and answer how many"
  written : (l : List ℕ) → Whole image l → 8 * length l ≤ length out → result ≡ pos (length l) → buffer ≡ bytes_of l ++ drop (8 * length l) out
      → GivesList image out result buffer
  -- "then a list buffer too short 6"
  too_short : (l : List ℕ) → Whole image l → length out < 8 * length l → Refused out result buffer 6 → GivesList image out result buffer
  -- "an empty list is 2 there"
  empty : ((i : ℕ) → Candidate image (block_zero image) i → ⊥) → Refused out result buffer 2 → GivesList image out result buffer

pub record ApfsCheckpoints : Type 0 where
  pub call : (image out : List ℕ) (s : Span) → part_of_image image ≡ Ok s → BlockZeroRead (part_of image s)
      → GivesList (part_of image s) out (number (xids_by (on_part numbers_at image) out).answer) (xids_by (on_part numbers_at image) out).buffer
  -- an image with NXSB at byte 32
  pub call_whole : (image out : List ℕ) → length image ≤ 2 ^ 34 → BlockZeroRead image → GivesList image out (number (xids_by (on_part numbers_at image) out).answer) (xids_by (on_part numbers_at image) out).buffer
  pub no_part : (image out : List ℕ) (e : Refusal) → part_of_image image ≡ Err e → Refused out (number (xids_by (on_part numbers_at image) out).answer) (xids_by (on_part numbers_at image) out).buffer (number_of e)
