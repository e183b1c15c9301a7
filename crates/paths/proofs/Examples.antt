-- Paths, names and choices worked out, by computing the definitions; a path's text is given byte by byte: / is 47, \ is 92, A is 65, a is 97.
use Prim.Native.Nat.{ℕ, zero, suc}
use mathlib.Core.Path.{◌≡◌, refl}
use mathlib.Core.Bool.{true, false}
use mathlib.Core.List.{List, [], ◌∷◌}
use Rattle.error.specs.Answer.{Ok, Err, if_le, if_eq}
use Rattle.error.specs.declared.Refusal.TheVariants.{NotFound, CharacterNotCovered}
use Rattle.utf8.specs.Text.{same_bytes}
use Rattle.name_hash.specs.Hash.{lower}
use Rattle.records.specs.declared.directory.Entry.{Entry}
use Rattle.paths.specs.Parts.{is_separator, split_of, parts_of}
use Rattle.paths.specs.Inner.{leading, next_part}
use Rattle.paths.specs.Names.{wide, folded, folded_key, same_keys}
use Rattle.paths.specs.Find.{exact_match, key_match, find_entry}
use Rattle.volume.specs.declared.rule.NameRule.{NameRule}

-- document 01, "Marked lines of the table": "paths "" and "//" are the root"
pub parts_slashes : parts_of (47 ∷ 47 ∷ []) ≡ []
unfolding parts_of split_of is_separator if_eq
parts_slashes = refl

-- "/a\\Aa/b/"
mixed : parts_of (47 ∷ 97 ∷ 92 ∷ 92 ∷ 65 ∷ 97 ∷ 47 ∷ 98 ∷ 47 ∷ []) ≡ (97 ∷ []) ∷ (65 ∷ 97 ∷ []) ∷ (98 ∷ []) ∷ []
unfolding parts_of split_of is_separator if_eq
mixed = refl

-- "a"
no_separators : parts_of (97 ∷ []) ≡ (97 ∷ []) ∷ []
unfolding parts_of split_of is_separator if_eq
no_separators = refl

-- the second part of "a//b", from the place after the first
second : next_part (97 ∷ 47 ∷ 47 ∷ 98 ∷ []) 1 ≡ record { start = 3; len = 1 }
unfolding next_part leading is_separator if_eq
second = refl

-- U+007F is the last that is covered
covered : wide (97 ∷ 127 ∷ []) ≡ false
unfolding wide if_le
covered = refl

not_covered : wide (97 ∷ 0xC3 ∷ 0xA4 ∷ []) ≡ true
unfolding wide if_le
not_covered = refl

-- "AZ@[" where case does not count, and where only normalization does not
key_caseless : folded_key true false (65 ∷ 90 ∷ 64 ∷ 91 ∷ []) ≡ 97 ∷ 122 ∷ 64 ∷ 91 ∷ []
unfolding folded_key folded lower if_le
key_caseless = refl

key_cased : folded_key false true (65 ∷ 90 ∷ []) ≡ 65 ∷ 90 ∷ []
unfolding folded_key folded
key_cased = refl

-- entries 0 to 3 of a directory, by their ids: "A", "a", "a", and "ä"
entry : ℕ → Entry
entry n = record { place = record { block = 0; key_off = 0; key_len = 0; val_off = 0; val_len = 0 }; name = record { start = 0; len = 0 }; file_id = n; date_added = 0; kind = 8 }

named : ℕ → List ℕ
named zero = 65 ∷ []
named (suc zero) = 97 ∷ []
named (suc (suc zero)) = 97 ∷ []
named (suc (suc (suc n))) = 0xC3 ∷ 0xA4 ∷ []

name_of : Entry → List ℕ
name_of e = named e.file_id

case_insensitive : NameRule
case_insensitive = record { case_insensitive = true; normalization_insensitive = false }

normalization_insensitive : NameRule
normalization_insensitive = record { case_insensitive = false; normalization_insensitive = true }

sensitive : NameRule
sensitive = record { case_insensitive = false; normalization_insensitive = false }

-- an exactly equal name comes before an earlier one with an equal key, and the first of two exactly equal names is taken
exact_first : find_entry case_insensitive name_of (97 ∷ []) (entry 0 ∷ entry 1 ∷ entry 2 ∷ []) ≡ Ok (entry 1)
unfolding find_entry exact_match same_bytes if_eq name_of named entry
exact_first = refl

-- an exactly equal name is taken behind one that is not covered, and may itself not be covered
exact_behind : find_entry case_insensitive name_of (97 ∷ []) (entry 3 ∷ entry 1 ∷ []) ≡ Ok (entry 1)
unfolding find_entry exact_match same_bytes if_eq name_of named entry
exact_behind = refl

exact_wide : find_entry case_insensitive name_of (0xC3 ∷ 0xA4 ∷ []) (entry 0 ∷ entry 3 ∷ []) ≡ Ok (entry 3)
unfolding find_entry exact_match same_bytes if_eq name_of named entry
exact_wide = refl

-- else the first with an equal key, before one that is not covered
keyed : find_entry case_insensitive name_of (65 ∷ []) (entry 1 ∷ entry 2 ∷ entry 3 ∷ []) ≡ Ok (entry 1)
unfolding find_entry exact_match key_match same_keys folded_key folded lower wide same_bytes if_eq if_le name_of named entry case_insensitive
keyed = refl

-- 9 behind one that is not covered
keyed_behind : find_entry case_insensitive name_of (65 ∷ []) (entry 3 ∷ entry 1 ∷ []) ≡ Err CharacterNotCovered
unfolding find_entry exact_match key_match same_keys folded_key folded lower wide same_bytes if_eq if_le name_of named entry case_insensitive
keyed_behind = refl

-- where only normalization does not count, case does, and 9 is met all the same
cased : find_entry normalization_insensitive name_of (65 ∷ []) (entry 1 ∷ entry 2 ∷ []) ≡ Err NotFound
unfolding find_entry exact_match key_match same_keys folded_key folded lower wide same_bytes if_eq if_le name_of named entry normalization_insensitive
cased = refl

cased_behind : find_entry normalization_insensitive name_of (65 ∷ []) (entry 1 ∷ entry 3 ∷ []) ≡ Err CharacterNotCovered
unfolding find_entry exact_match key_match same_keys folded_key folded lower wide same_bytes if_eq if_le name_of named entry normalization_insensitive
cased_behind = refl

-- a part that is not covered is 9 in an empty directory, but 4 on a sensitive volume
part_first : find_entry case_insensitive name_of (0xC3 ∷ 0x84 ∷ []) [] ≡ Err CharacterNotCovered
unfolding find_entry exact_match wide if_le case_insensitive
part_first = refl

part_sensitive : find_entry sensitive name_of (0xC3 ∷ 0x84 ∷ []) (entry 3 ∷ []) ≡ Err NotFound
unfolding find_entry exact_match same_bytes if_eq name_of named entry sensitive
part_sensitive = refl
