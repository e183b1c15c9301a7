-- A reflected CRC of 32 bits, bit by bit, with the polynomial p. Document 01, "name_hash.rs", which the quotes are from: CRC-32C; document 02, request 01: CRC-32.
use Rattle.std.specs.Prelude.{ℕ, zero, suc, ◌/◌, ◌%◌, List, [], ◌∷◌}
use Rattle.std.specs.Int.Bits.{bit_xor}
use Rattle.error.specs.Answer.{if_eq}

-- "reflected": the lowest bit falls out, and the polynomial is added where it was 1
unfoldable pub shift : ℕ → ℕ → ℕ
shift p c = if_eq (c % 2) 1 (bit_xor (c / 2) p) (c / 2)

-- "each word is eight shift steps of its index" (document 01): n of them
unfoldable pub shifts : ℕ → ℕ → ℕ → ℕ
shifts p zero c = c
shifts p (suc n) c = shifts p n (shift p c)

-- the register c after the bytes
unfoldable pub crc : ℕ → ℕ → List ℕ → ℕ
crc p c [] = c
crc p c (x ∷ b) = crc p (shifts p 8 (bit_xor c x)) b
