-- Worked examples, by computing the definitions.
use mathlib.Core.Path.{◌≡◌, refl}
use mathlib.Core.Bool.{true}
use mathlib.Core.List.{[], ◌∷◌}
use Rattle.error.specs.Answer.{if_eq}
use Rattle.byte_fields.specs.Number.{little}
use Rattle.crc.specs.Crc.{shift, shifts, crc}
use Rattle.gpt.specs.Table.{crc32, is_apfs}

-- "123456789": the check value published for CRC-32
pub crc_check : crc32 (49 ∷ 50 ∷ 51 ∷ 52 ∷ 53 ∷ 54 ∷ 55 ∷ 56 ∷ 57 ∷ []) ≡ 0xCBF43926
unfolding crc32 crc shifts shift if_eq
crc_check = refl

-- type 7C3457EF-0000-11AA-AA11-00306543ECAC as it is stored: the bytes of the first three groups from the lowest on
pub guid : is_apfs (0xEF ∷ 0x57 ∷ 0x34 ∷ 0x7C ∷ 0x00 ∷ 0x00 ∷ 0xAA ∷ 0x11 ∷ 0xAA ∷ 0x11 ∷ 0x00 ∷ 0x30 ∷ 0x65 ∷ 0x43 ∷ 0xEC ∷ 0xAC ∷ []) 0 ≡ true
unfolding is_apfs little if_eq
guid = refl

-- "EFI PART"
pub signature : little 8 (0x45 ∷ 0x46 ∷ 0x49 ∷ 0x20 ∷ 0x50 ∷ 0x41 ∷ 0x52 ∷ 0x54 ∷ []) 0 ≡ 0x5452415020494645
unfolding little
signature = refl
