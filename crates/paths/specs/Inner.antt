-- The shape of the code that looks a path up; a reader of the contracts may pass over this file. The parts by their places are `parts_of` (Parts.antt), by
-- `next_parts` (proofs/Parts.antt); the choice made entry after entry, in one reading of the list, is `find_entry` (Find.antt), by
-- `chosen_start` (proofs/Chosen.antt).
use Rattle.std.specs.Prelude.{ℕ, suc, ◌+◌, Bool, true, false, List, [], ◌∷◌, drop}
use Rattle.std.specs.Bool.{beq}
use Rattle.error.specs.Answer.{Answer, Ok, Err, pick}
use Rattle.error.specs.declared.Refusal.TheVariants.{NotFound, CharacterNotCovered}
use Rattle.byte_fields.specs.declared.Span.{Span}
use Rattle.utf8.specs.Text.{same_bytes}
use Rattle.records.specs.declared.directory.Entry.{Entry}
use Rattle.paths.specs.Parts.{is_separator}
use Rattle.volume.specs.Rule.{insensitive}
use Rattle.paths.specs.Names.{wide, same_keys}
use Rattle.volume.specs.declared.rule.NameRule.{NameRule}
use Rattle.paths.specs.declared.choose.Choice.{Choice}
use Rattle.paths.specs.declared.choose.Choice.TheVariants.{Open, Exact, Keyed, No}

-- "in key comparison on an insensitive volume", "The part is tested first"
unfoldable pub none_yet : NameRule → List ℕ → Choice
none_yet rule p = pick (insensitive rule) (pick (wide p) (No CharacterNotCovered) Open) (No NotFound)

-- "the first exactly equal name is taken"
unfoldable pub unless_exact : List ℕ → List ℕ → Entry → Choice → Choice
unless_exact name p e other = pick (same_bytes name p) (Exact e) other

-- "else the first with an equal key", or 9
unfoldable pub by_key : NameRule → List ℕ → List ℕ → Entry → Choice
by_key rule name p e = pick (wide name) (No CharacterNotCovered) (pick (same_keys rule.case_insensitive rule.normalization_insensitive p name) (Keyed e) Open)

-- what is known after an entry of a name
unfoldable pub weighed : NameRule → List ℕ → List ℕ → Entry → Choice → Choice
weighed rule name p e Open = unless_exact name p e (by_key rule name p e)
weighed rule name p e (Exact x) = Exact x
weighed rule name p e (Keyed x) = unless_exact name p e (Keyed x)
weighed rule name p e (No w) = unless_exact name p e (No w)

-- and after the last; 4 "no such .. path part"
abbrev pub settled : Choice → Answer Entry
settled Open = Err NotFound
settled (Exact x) = Ok x
settled (Keyed x) = Ok x
settled (No w) = Err w

-- the parts by their places: how many bytes at the head are separators, or are none
unfoldable pub leading : Bool → List ℕ → ℕ
leading d [] = 0
leading d (b ∷ x) = pick (beq (is_separator b) d) (suc (leading d x)) 0

-- the first part from a place on, empty where there is none
unfoldable pub next_part : List ℕ → ℕ → Span
next_part x at = record { start = at + leading true (drop at x); len = leading false (drop (at + leading true (drop at x)) x) }
