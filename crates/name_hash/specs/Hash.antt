-- The hash of a directory entry's name. Document 01, "name_hash.rs", which the quotes are from; Apple File System Reference, "File-System Objects", j_drec_hashed_key_t.
use Rattle.std.specs.Prelude.{ℕ, ◌+◌, ◌*◌, ◌%◌, ◌^◌, ◌-◌, Bool, List, [], ◌∷◌, length}
use Rattle.error.specs.Answer.{Answer, Ok, Err, ◌>>=◌, pick, if_le}
use Rattle.error.specs.declared.Refusal.TheVariants.{CharacterNotCovered}
use Rattle.crc.specs.Crc.{crc}

-- "CRC-32C (reflected 0x82F63B78)": Castagnoli's polynomial
abbrev pub castagnoli : ℕ
castagnoli = 0x82F63B78

-- "lower case", of an ASCII character
unfoldable pub lower : ℕ → ℕ
lower x = if_le 65 x (if_le x 90 (x + 32) x) x

-- a character as the rule compares it: "For ASCII names, any other being 9: lower case if insensitive"
unfoldable pub fold_case : Bool → ℕ → Answer ℕ
fold_case i x = if_le x 127 (Ok (pick i (lower x) x)) (Err CharacterNotCovered)

-- the same of every character of a name, the first that is not covered counting
unfoldable pub fold_all : Bool → List ℕ → Answer (List ℕ)
fold_all i [] = Ok []
fold_all i (x ∷ b) = fold_case i x >>= λ y. fold_all i b >>= λ ys. Ok (y ∷ ys)

-- "each character as 4 bytes"
unfoldable pub utf32 : List ℕ → List ℕ
utf32 [] = []
utf32 (x ∷ b) = x ∷ 0 ∷ 0 ∷ 0 ∷ utf32 b

-- "started at all ones and not complemented, low 22 bits"
unfoldable pub name_hash : Bool → List ℕ → Answer ℕ
name_hash i name = fold_all i name >>= λ b. Ok (crc castagnoli (2 ^ 32 - 1) (utf32 b) % 2 ^ 22)

-- name_hash.rs, `name_len_and_hash`: the length with the closing zero byte in the low 10 bits, the hash above them
unfoldable pub name_len_and_hash : Bool → List ℕ → Answer ℕ
name_len_and_hash i name = name_hash i name >>= λ h. Ok ((length name + 1) % 2 ^ 10 + 2 ^ 10 * h)
