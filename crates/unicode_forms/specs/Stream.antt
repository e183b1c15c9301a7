-- A name's characters one after the other, decomposed and folded, as the comparison goes through them; and a list of them without one class.
use Rattle.std.specs.Prelude.{ℕ, ◌+◌, Bool, List, [], ◌∷◌}
use Rattle.error.specs.Answer.{pick, if_eq}
use Rattle.utf8.specs.Text.{◌to◌, if_in}
use Rattle.utf8.specs.Characters.{characters}
use Rattle.unicode_forms.specs.Data.{class_of, decompose}
use Rattle.unicode_forms.specs.Keys.{flat, fold}

-- what stands for one character
unfoldable pub letters_of : Bool → ℕ → List ℕ
letters_of caseless c = flat (fold caseless) (decompose c)

unfoldable pub letters : Bool → List ℕ → List ℕ
letters caseless b = flat (letters_of caseless) (characters b)

-- without the characters of a class
unfoldable pub without : ℕ → List ℕ → List ℕ
without k [] = []
without k (c ∷ cs) = if_eq (class_of c) k (without k cs) (c ∷ without k cs)

-- an ASCII letter in lower case, where case does not count
unfoldable pub small_of : Bool → ℕ → ℕ
small_of caseless x = pick caseless (if_in x (0x41 to 0x5A) (x + 32) x) x
