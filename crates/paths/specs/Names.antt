-- How names are compared. Document 01, "Records": "the first exactly equal name is taken, else the first with an equal key"; fs.rs, `NameRule::key`.
use Rattle.std.specs.Prelude.{ℕ, Bool, true, false, List, [], ◌∷◌}
use Rattle.error.specs.Answer.{pick, if_le}
use Rattle.utf8.specs.Text.{same_bytes}
use Rattle.name_hash.specs.Hash.{lower}

-- "has a character above U+007F"
unfoldable pub wide : List ℕ → Bool
wide [] = false
wide (x ∷ b) = if_le x 127 (wide b) true

-- a character of a key: in lower case where case does not count (fs.rs, `NameRule::key`, of ASCII)
unfoldable pub folded : Bool → ℕ → ℕ
folded case_insensitive x = pick case_insensitive (lower x) x

-- the key of an ASCII name, which is its own decomposition, so that normalization changes nothing (fs.rs, `NameRule::key`)
unfoldable pub folded_key : (case_insensitive normalization_insensitive : Bool) → List ℕ → List ℕ
folded_key c n [] = []
folded_key c n (x ∷ b) = folded c x ∷ folded_key c n b

-- "with an equal key"
unfoldable pub same_keys : (case_insensitive normalization_insensitive : Bool) → List ℕ → List ℕ → Bool
same_keys c n a b = same_bytes (folded_key c n a) (folded_key c n b)
