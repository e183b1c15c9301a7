-- Keys worked out, by computing the definitions; a name is given byte by byte, a key character by character.
use mathlib.Core.Path.{◌≡◌, refl}
use mathlib.Core.Bool.{true, false}
use mathlib.Core.List.{[], ◌∷◌}
use Rattle.error.specs.Answer.{if_le, if_eq}
use Rattle.utf8.specs.Text.{if_in, rest_of, agree, piece_of}
use Rattle.utf8.specs.Characters.{scalar_of, characters_in, characters}
use Rattle.unicode_forms.specs.Data.{any_in, class_of, in_rows, hangul, decompose, lower_one, lower}
use Rattle.unicode_forms.specs.Keys.{flat, if_reorderable, place, canonical, fold, key_of, hashed_of, all_covered, covered_text}

-- U+00C4 where case does not count, and where only normalization does not
capital : key_of true (0xC3 ∷ 0x84 ∷ []) ≡ 0x61 ∷ 0x0308 ∷ []
unfolding key_of flat fold canonical place if_reorderable decompose in_rows class_of lower lower_one characters characters_in scalar_of piece_of rest_of agree if_in if_le if_eq
capital = refl

cased : key_of false (0xC3 ∷ 0x84 ∷ []) ≡ 0x41 ∷ 0x0308 ∷ []
unfolding key_of flat fold canonical place if_reorderable decompose in_rows class_of characters characters_in scalar_of piece_of rest_of agree if_in if_le if_eq
cased = refl

-- U+00DF is no capital, and is not decomposed
sharp : key_of true (0xC3 ∷ 0x9F ∷ []) ≡ 0x00DF ∷ []
unfolding key_of flat fold canonical place if_reorderable decompose in_rows class_of lower lower_one characters characters_in scalar_of piece_of rest_of agree if_in if_le if_eq
sharp = refl

-- a, a mark above, a mark below, a: the mark below goes before the mark above
ordered : key_of false (0x61 ∷ 0xCC ∷ 0x88 ∷ 0xCC ∷ 0xA7 ∷ 0x61 ∷ []) ≡ 0x61 ∷ 0x0327 ∷ 0x0308 ∷ 0x61 ∷ []
unfolding key_of flat fold canonical place if_reorderable decompose in_rows class_of characters characters_in scalar_of piece_of rest_of agree if_in if_le if_eq
ordered = refl

-- two marks above stay as they stand
kept : key_of false (0x61 ∷ 0xCC ∷ 0x88 ∷ 0xCC ∷ 0x81 ∷ []) ≡ 0x61 ∷ 0x0308 ∷ 0x0301 ∷ []
unfolding key_of flat fold canonical place if_reorderable decompose in_rows class_of characters characters_in scalar_of piece_of rest_of agree if_in if_le if_eq
kept = refl

-- U+0130, as a key and as it is hashed
dotted : key_of true (0xC4 ∷ 0xB0 ∷ []) ≡ 0x69 ∷ 0x0307 ∷ []
unfolding key_of flat fold canonical place if_reorderable decompose in_rows class_of lower lower_one characters characters_in scalar_of piece_of rest_of agree if_in if_le if_eq
dotted = refl

dotted_hashed : hashed_of true (0xC4 ∷ 0xB0 ∷ []) ≡ 0x69 ∷ 0x0307 ∷ []
unfolding hashed_of flat fold canonical place if_reorderable decompose in_rows class_of lower lower_one characters characters_in scalar_of piece_of rest_of agree if_in if_le if_eq
dotted_hashed = refl

-- U+C815 and U+AC00: three letters, and two
syllables : key_of true (0xEC ∷ 0xA0 ∷ 0x95 ∷ 0xEA ∷ 0xB0 ∷ 0x80 ∷ []) ≡ 0x110C ∷ 0x1165 ∷ 0x11BC ∷ 0x1100 ∷ 0x1161 ∷ []
unfolding key_of flat fold canonical place if_reorderable decompose hangul in_rows class_of lower lower_one characters characters_in scalar_of piece_of rest_of agree if_in if_le if_eq
syllables = refl

-- U+0304 is covered and U+0305 is not; nor is an ill-formed part
last_mark : covered_text (0xCC ∷ 0x84 ∷ []) ≡ true
unfolding covered_text all_covered any_in characters characters_in scalar_of piece_of rest_of agree if_in if_le if_eq
last_mark = refl

past_mark : covered_text (0xCC ∷ 0x85 ∷ []) ≡ false
unfolding covered_text all_covered any_in characters characters_in scalar_of piece_of rest_of agree if_in if_le if_eq
past_mark = refl

ill_formed : covered_text (0x61 ∷ 0xFF ∷ []) ≡ false
unfolding covered_text all_covered any_in characters characters_in scalar_of piece_of rest_of agree if_in if_le if_eq
ill_formed = refl
