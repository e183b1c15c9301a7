-- What the answers of this crate say.
use Rattle.std.specs.Prelude.{ℕ, ◌/◌, ◌%◌, ◌<◌, ◌≡◌, Bool, false, List, [], ◌∷◌, ◌++◌, length, take, drop}
use Rattle.error.specs.Answer.{pick, if_eq}
use Rattle.utf8.specs.Text.{piece_of, same_bytes}
use Rattle.unicode_forms.specs.Keys.{canonical, covered_text, same_keys}
use Rattle.utf8.specs.Characters.{scalar_of}
use Rattle.utf8.specs.declared.Piece.{Piece}
use Rattle.utf8.specs.declared.Piece.TheVariants as piece
use Rattle.unicode_forms.specs.Stream.{letters_of, letters, without}
use Rattle.keys.specs.declared.characters.Character.{Character}
use Rattle.keys.specs.declared.characters.Character.TheVariants as character
use Rattle.keys.specs.declared.letters.Expansion.{Expansion}
use Rattle.keys.specs.declared.letters.Expansion.TheVariants as expansion
use Rattle.keys.specs.declared.stream.Pending.{Pending}
use Rattle.keys.specs.declared.stream.Pending.TheVariants as pending
use Rattle.keys.specs.declared.stream.Cursor.{Cursor}
use Rattle.keys.specs.declared.compare.Passing.{Passing}
use Rattle.keys.specs.declared.compare.Passing.TheVariants as passing
use Rattle.keys.specs.declared.matching.Verdict.{Verdict}
use Rattle.keys.specs.declared.matching.Verdict.TheVariants.{Same, Other, Uncovered}
use Rattle.keys.specs.declared.stream.Step.{Step}
use Rattle.keys.specs.declared.stream.Step.TheVariants as step

abbrev pub character_in : Piece → List ℕ → Character
character_in piece.End b = character.End
character_in (piece.WellFormed n) b = character.At (scalar_of (take n b)) n
character_in (piece.IllFormed n) b = character.At 0xFFFD n

-- the character at the head of b
abbrev pub character_of : List ℕ → Character
character_of b = character_in (piece_of b) b

-- both texts begin with a character of n bytes, and the two have the same letters; nothing is said where n is 0
abbrev pub Shares : Bool → List ℕ → List ℕ → ℕ → Type 0
Shares caseless a b n =
    (n ≡ 0 → ⊥) → (c : ℕ) × ((d : ℕ) × ((character.At c n ≡ character_of a) × ((character.At d n ≡ character_of b) × (letters_of caseless c ≡ letters_of caseless d))))

abbrev pub expansion_of : Expansion → List ℕ
expansion_of (expansion.One x) = x ∷ []
expansion_of (expansion.Two x y) = x ∷ y ∷ []
expansion_of (expansion.Three x y z) = x ∷ y ∷ z ∷ []

-- a word of a table
unfoldable pub unpacked : ℕ → List ℕ
unpacked w = if_eq (w / 65536) 0 (w % 65536 ∷ []) (w % 65536 ∷ w / 65536 ∷ [])

abbrev pub pending_of : Pending → List ℕ
pending_of pending.Nothing = []
pending_of (pending.One x) = x ∷ []
pending_of (pending.Two x y) = x ∷ y ∷ []

-- the letters from a cursor on
unfoldable pub left_of : Bool → List ℕ → Cursor → List ℕ
left_of caseless b c = pending_of c.pending ++ letters caseless (drop c.at b)

-- a letter and those after it, or none
abbrev pub step_told : Bool → List ℕ → Step → List ℕ
step_told caseless b step.End = []
step_told caseless b (step.Letter x c) = x ∷ left_of caseless b c

abbrev pub but_told : ℕ → Bool → List ℕ → Step → List ℕ
but_told k caseless b step.End = []
but_told k caseless b (step.Letter x c) = x ∷ without k (left_of caseless b c)

-- whether what is left of two names from a place on has the same key
abbrev pub same_left : Bool → List ℕ → List ℕ → ℕ → ℕ → Bool
same_left caseless a b i j = same_bytes (canonical (letters caseless (drop i a))) (canonical (letters caseless (drop j b)))

-- as much is left to be told further on, and fewer letters; what is left differs
abbrev pub Passes : Bool → List ℕ → List ℕ → ℕ → ℕ → Passing → Type 0
Passes caseless a b i j (passing.To k l) = (same_left caseless a b k l ≡ same_left caseless a b i j) × (length (letters caseless (drop k a)) < length (letters caseless (drop i a)))
Passes caseless a b i j passing.Apart = false ≡ same_left caseless a b i j
Passes caseless a b i j passing.Unknown = Unit

-- what the keys of a part and a name say on an insensitive volume
unfoldable pub same_or : Bool → Verdict
same_or d = pick d Same Other

unfoldable pub keys_say : Bool → List ℕ → List ℕ → Verdict
keys_say caseless p name = pick (covered_text name) (same_or (same_keys caseless p name)) Uncovered
