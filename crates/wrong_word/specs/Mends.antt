-- Which single words of an object could be wrong, and what would stand in their place: every word is tried. Document 02, request 13. What this comes to
-- is said in specs/Listed.antt.
use Rattle.std.specs.Prelude.{ℕ, zero, suc, ◌+◌, ◌-◌, ◌/◌, ◌^◌, List, [], ◌∷◌, ◌++◌, length, take, drop}
use Rattle.error.specs.Answer.{pick}
use Rattle.byte_fields.specs.Number.{little_bytes}
use Rattle.checksum.specs.Fletcher.{valid}
use Rattle.calls.specs.Filled.{Filled, entries_in}

pub record Mend : Type 0 where
  pub place : ℕ
  pub word : ℕ

-- the object with the word at a place replaced: "whose replacement alone"
unfoldable pub replaced : List ℕ → ℕ → ℕ → List ℕ
replaced b p w = take p b ++ (little_bytes 4 w ++ drop (p + 4) b)

-- of the n words from w on, those that make the object valid at the place p
unfoldable pub mends_at : List ℕ → ℕ → ℕ → ℕ → List Mend
mends_at b p zero w = []
mends_at b p (suc n) w = pick (valid (replaced b p w)) (record { place = p; word = w } ∷ mends_at b p n (w + 1)) (mends_at b p n (w + 1))

-- at n places from p on: "every word", "with each replacing word, lowest place first and lower word first"
unfoldable pub mends_from : List ℕ → ℕ → ℕ → List Mend
mends_from b zero p = []
mends_from b (suc n) p = mends_at b p (2 ^ 32) 0 ++ mends_from b n (p + 4)

-- "A sound object, or one whose length is invalid, gives an empty list"
unfoldable pub mends_of : List ℕ → List Mend
mends_of b = pick (valid b) [] (mends_from b ((length b - 8) / 4) 8)

abbrev pub mend : ℕ → ℕ → Mend
mend p w = record { place = p; word = w }

-- "8 bytes for the place, counted in bytes from the object's start, then 4 for the replacing word"
unfoldable pub entry : Mend → List ℕ
entry m = little_bytes 8 m.place ++ little_bytes 4 m.word

unfoldable pub listed : List Mend → List ℕ
listed [] = []
listed (m ∷ ms) = entry m ++ listed ms

-- "answer how many"; "a list buffer too short gives 6 and is unchanged"
unfoldable pub mends_in : List Mend → List ℕ → Filled
mends_in ms b = entries_in 12 (length ms) (listed ms) b
