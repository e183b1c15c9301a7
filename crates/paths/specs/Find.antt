-- The entry that a part of a path names. Document 01, "Records": "Per part, the first exactly equal name is taken, else the first with an equal key";
-- "What must change shape": "comparisons read it lossily"; fs.rs, `lookup_path`.
-- Entries of any type, whose names are what `name` gives.
use Rattle.std.specs.Prelude.{ℕ, List, [], ◌∷◌}
use Rattle.error.specs.Answer.{Answer, Ok, Err, pick}
use Rattle.error.specs.declared.Refusal.TheVariants.{NotFound, CharacterNotCovered}
use Rattle.utf8.specs.Text.{same_bytes}
use Rattle.volume.specs.Rule.{insensitive}
use Rattle.paths.specs.Names.{wide, same_keys}
use Rattle.volume.specs.declared.rule.NameRule.{NameRule}

-- "the first exactly equal name is taken, else" other
unfoldable pub exact_match : {A : Type 0} → (A → List ℕ) → List ℕ → List A → Answer A → Answer A
exact_match name p [] other = other
exact_match name p (e ∷ es) other = pick (same_bytes p (name e)) (Ok e) (exact_match name p es other)

-- "the first with an equal key"; 9 where "an entry name reached before the match, has a character above U+007F", 4 for none
unfoldable pub key_match : {A : Type 0} → NameRule → (A → List ℕ) → List ℕ → List A → Answer A
key_match rule name p [] = Err NotFound
key_match rule name p (e ∷ es) =
    pick (wide (name e)) (Err CharacterNotCovered)
    (pick (same_keys rule.case_insensitive rule.normalization_insensitive p (name e)) (Ok e) (key_match rule name p es))

-- 9 "in key comparison on an insensitive volume", "The part is tested first"; where no name counts as equal, 4
unfoldable pub find_entry : {A : Type 0} → NameRule → (A → List ℕ) → List ℕ → List A → Answer A
find_entry rule name p es =
    exact_match name p es (pick (insensitive rule) (pick (wide p) (Err CharacterNotCovered) (key_match rule name p es)) (Err NotFound))
