-- Keys of names. Request 07; fs.rs, `NameRule::key`; name_hash.rs, `name_hash`; Unicode Standard, section 3.11, D108 and D109 (canonical ordering).
use Rattle.std.specs.Prelude.{ℕ, Bool, true, false, List, [], ◌∷◌, ◌++◌}
use Rattle.error.specs.Answer.{pick, if_le, if_eq}
use Rattle.utf8.specs.Text.{same_bytes}
use Rattle.utf8.specs.Characters.{characters}
use Rattle.unicode_forms.specs.Data.{covered, class_of, decompose, lower}

-- each character replaced by some
unfoldable pub flat : (ℕ → List ℕ) → List ℕ → List ℕ
flat f [] = []
flat f (c ∷ cs) = f c ++ flat f cs

-- D108: c before d are a reorderable pair, ccc(c) > ccc(d) > 0; x where they are, else y
unfoldable pub if_reorderable : {A : Type 0} → ℕ → ℕ → A → A → A
if_reorderable c d x y = if_eq (class_of d) 0 y (if_le (class_of c) (class_of d) y x)

-- a character before others that are in order: exchanged with the next while they are a reorderable pair
unfoldable pub place : ℕ → List ℕ → List ℕ
place c [] = c ∷ []
place c (d ∷ ds) = if_reorderable c d (d ∷ place c ds) (c ∷ d ∷ ds)

-- D109, the canonical ordering algorithm
unfoldable pub canonical : List ℕ → List ℕ
canonical [] = []
canonical (c ∷ cs) = place c (canonical cs)

-- "lower each character" where case does not count
unfoldable pub fold : Bool → ℕ → List ℕ
fold caseless c = pick caseless (lower c) (c ∷ [])

-- the key of a text on an insensitive volume: decomposed and ordered, then lowered (fs.rs, `NameRule::key`)
unfoldable pub key_of : Bool → List ℕ → List ℕ
key_of caseless b = flat (fold caseless) (canonical (flat decompose (characters b)))

-- the characters that the hash is of: "lowering first .. and decomposing after" (name_hash.rs)
unfoldable pub hashed_of : Bool → List ℕ → List ℕ
hashed_of caseless b = canonical (flat decompose (flat (fold caseless) (characters b)))

-- whether every character lies in the ranges
unfoldable pub all_covered : List ℕ → Bool
all_covered [] = true
all_covered (c ∷ cs) = pick (covered c) (all_covered cs) false

unfoldable pub covered_text : List ℕ → Bool
covered_text b = all_covered (characters b)

-- "with an equal key"
unfoldable pub same_keys : Bool → List ℕ → List ℕ → Bool
same_keys caseless a b = same_bytes (key_of caseless a) (key_of caseless b)
