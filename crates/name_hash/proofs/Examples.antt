-- Worked examples, by computing the definitions. Of the empty name no character is read, so the register is still all ones.
use Prim.Native.Nat.{◌-◌}
use mathlib.Core.Path.{◌≡◌, refl}
use mathlib.Core.Bool.{true, false}
use mathlib.Core.List.{[], ◌∷◌}
use Rattle.error.specs.Answer.{Ok, Err, if_le, if_eq}
use Rattle.error.specs.declared.Refusal.TheVariants.{CharacterNotCovered}
use Rattle.crc.specs.Crc.{shift, shifts, crc}
use Rattle.name_hash.specs.Hash.{castagnoli, lower, fold_case, fold_all, utf32, name_hash, name_len_and_hash}

pub empty_hash : name_hash true [] ≡ Ok 0x3FFFFF
unfolding name_hash fold_all utf32 crc
empty_hash = refl

pub empty_hash_sensitive : name_hash false [] ≡ Ok 0x3FFFFF
unfolding name_hash fold_all utf32 crc
empty_hash_sensitive = refl

pub empty_len_and_hash : name_len_and_hash true [] ≡ Ok 0xFFFFFC01
unfolding name_len_and_hash name_hash fold_all utf32 crc
empty_len_and_hash = refl

pub empty_len_and_hash_sensitive : name_len_and_hash false [] ≡ Ok 0xFFFFFC01
unfolding name_len_and_hash name_hash fold_all utf32 crc
empty_len_and_hash_sensitive = refl

-- "123456789", complemented: the check value published for CRC-32C is 0xE3069283
pub crc_check : crc castagnoli 0xFFFFFFFF (49 ∷ 50 ∷ 51 ∷ 52 ∷ 53 ∷ 54 ∷ 55 ∷ 56 ∷ 57 ∷ []) ≡ 0xFFFFFFFF - 0xE3069283
unfolding crc shifts shift if_eq
crc_check = refl

-- "AZ", where case does not count
pub fold_upper : fold_all true (65 ∷ 90 ∷ []) ≡ Ok (97 ∷ 122 ∷ [])
unfolding fold_all fold_case lower if_le
fold_upper = refl

-- 127 is the last ASCII character
pub last_ascii : fold_case true 127 ≡ Ok 127
unfolding fold_case lower if_le
last_ascii = refl

pub past_ascii : fold_case true 128 ≡ Err CharacterNotCovered
unfolding fold_case lower if_le
past_ascii = refl
