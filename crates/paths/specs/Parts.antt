-- The parts of a path. Document 01, "Records": "Paths split on / and \, empty parts dropped"; fs.rs, `lookup_path`.
use Rattle.std.specs.Prelude.{ℕ, Bool, true, List, [], ◌∷◌, eqb}
use Rattle.error.specs.Answer.{pick, if_eq}

-- "/ and \" in ASCII
unfoldable pub is_separator : ℕ → Bool
is_separator b = if_eq b 47 true (eqb b 92)

-- a part before others, "empty parts dropped"
abbrev pub unless_empty : List ℕ → List (List ℕ) → List (List ℕ)
unless_empty [] ps = ps
unless_empty (b ∷ x) ps = (b ∷ x) ∷ ps

-- what stands before the first separator, and the parts after it
unfoldable pub split_of : List ℕ → List ℕ × List (List ℕ)
split_of [] = ([], [])
split_of (b ∷ x) = pick (is_separator b) ([], unless_empty (split_of x).0 (split_of x).1) (b ∷ (split_of x).0, (split_of x).1)

-- "Paths split on / and \, empty parts dropped"
unfoldable pub parts_of : List ℕ → List (List ℕ)
parts_of x = unless_empty (split_of x).0 (split_of x).1
