-- WRONG WORDS at the exported call: what `apfs_wrong_words` gives. Document 02, request 13. It is proved, as `apfs_wrong_words`, in
-- proofs/WrongWords.antt.
--
-- Of every object and every buffer: the call gives how many entries there are, and the buffer begins with them, 12 bytes each; or -6 where they do not
-- fit, and then the buffer is as it was. The entries are exactly the single words, with their places, that make an object valid which fails its checksum,
-- by place and then by word.
--
-- `Mends`, `Member` and `Rising` stand in wrong_word, specs/Listed.antt. By its contract (src/object.rt) `apfs_wrong_words(object, out)` gives
-- `number (mends_in (mends_of object) out).answer` and leaves `(mends_in (mends_of object) out).buffer`.
use Rattle.std.specs.Prelude.{ℕ, ◌*◌, ◌≤◌, ◌<◌, ◌≡◌, List, ◌++◌, ℤ, pos, length, drop}
use Rattle.wrong_word.specs.Mends.{Mend, mends_of, mends_in, listed}
use Rattle.wrong_word.specs.Listed.{Mends, Member, Rising}
use Rattle.results.specs.Call.{number}
use Rattle.apfs.specs.Opened.{Refused}

-- "list every word from byte 8 on whose replacement alone would make the checksum valid", "No others are listed", "lowest place first and lower word first"
pub record Exactly (object : List ℕ) (ms : List Mend) : Type 0 where
  pub all : (m : Mend) → Mends object m → Member m ms
  pub only : (m : Mend) → Member m ms → Mends object m
  pub rising : Rising ms

pub data GivesWords (object out : List ℕ) (result : ℤ) (buffer : List ℕ) : Type 0 where
  -- "answer how many"
  written : (ms : List Mend) → Exactly object ms → 12 * length ms ≤ length out → result ≡ pos (length ms) → buffer ≡ listed ms ++ drop (12 * length ms) out
      → GivesWords object out result buffer
  -- "a list buffer too short gives 6 and is unchanged"
  too_short : (ms : List Mend) → Exactly object ms → length out < 12 * length ms → Refused out result buffer 6 → GivesWords object out result buffer

abbrev pub ApfsWrongWords : Type 0
ApfsWrongWords = (object out : List ℕ) → GivesWords object out (number (mends_in (mends_of object) out).answer) (mends_in (mends_of object) out).buffer
