-- How the list is found: a buyer may pass over this file. What the sums of an object lack, and what that gives at each place, is proved to be the list of
-- specs/Mends.antt (`Found`, proofs/Solved.antt).
use Rattle.std.specs.Prelude.{ℕ, zero, suc, ◌+◌, ◌-◌, ◌*◌, ◌/◌, ◌%◌, ◌^◌, ◌≤◌, ◌<◌, ◌≡◌, List, [], ◌∷◌, ◌++◌, length, None, Option, Some}
use Rattle.error.specs.Answer.{if_eq}
use Rattle.byte_fields.specs.Number.{little}
use Rattle.checksum.specs.Fletcher.{M, s1, s2}
use Rattle.checksum.specs.declared.Sums.{Sums}
use Rattle.wrong_word.specs.Mends.{Mend, mend, mends_of}
use Rattle.wrong_word.specs.declared.Gap.{Gap}

-- the sums s and t and the stored halves x and y of a sound object
pub record Sound (s t x y : ℕ) : Type 0 where
  pub low : 0 < x
  pub high : 0 < y
  pub both : (s + t + x) % M ≡ 0
  pub one : (s + x + y) % M ≡ 0

-- by how much a word has to grow, from 1 to M: the same at every place
unfoldable pub gap : List ℕ → ℕ
gap b = M - (s1 b + little 4 b 0 + little 4 b 4) % M

-- a word that has k words from it on, itself counted, closes the gap in the second sum too
pub record Closes (b : List ℕ) (k : ℕ) : Type 0 where
  pub low : 0 < little 4 b 0
  pub high : 0 < little 4 b 4
  pub meets : (s1 b + s2 b + little 4 b 0 + (k + 1) * gap b) % M ≡ 0

-- the words of a residue modulo 2 ^ 32 - 1: "the words 0 and 0xFFFFFFFF count as two"
unfoldable pub words_of_residue : ℕ → ℕ → List Mend
words_of_residue p r = if_eq r 0 (mend p 0 ∷ mend p (2 ^ 32 - 1) ∷ []) (mend p r ∷ [])

pub record Within (g : Gap) : Type 0 where
  pub by_most : g.by ≤ M
  pub rest_less : g.rest < M

-- from both sums and both stored halves
unfoldable pub gaps_with : Sums → ℕ → ℕ → Option Gap
gaps_with s low high =
    if_eq low 0 None (if_eq high 0 None (Some (record { by = M - (s.s1 + low + high) % M; rest = (s.s1 + s.s2 + low) % M })))

-- at a place with k words from it on: the words of one residue, or none
unfoldable pub solved_at : Gap → List ℕ → ℕ → ℕ → List Mend
solved_at g b k p = if_eq ((g.rest + (k + 1) * g.by) % M) 0 (words_of_residue p ((little 4 b p + g.by) % M)) []

-- at n places from p on
unfoldable pub solved_from : Gap → List ℕ → ℕ → ℕ → List Mend
solved_from g b zero p = []
solved_from g b (suc n) p = solved_at g b (suc n) p ++ solved_from g b n (p + 4)

abbrev pub solved : Option Gap → List ℕ → List Mend
solved None b = []
solved (Some g) b = solved_from g b ((length b - 8) / 4) 8

abbrev pub GapsWithin : List ℕ → Option Gap → Type 0
GapsWithin b None = Unit {0}
GapsWithin b (Some g) = Within g × (8 ≤ length b)

-- the gaps of an object give its list
pub record Found (b : List ℕ) (r : Option Gap) : Type 0 where
  pub list : mends_of b ≡ solved r b
  pub bounds : GapsWithin b r
