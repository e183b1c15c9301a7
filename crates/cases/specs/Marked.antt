-- Document 01, "Marked lines of the table": "Proved together, as a table that is checked whole". One statement, `MarkedLines`; it is proved in
-- proofs/Marked.antt.
use Rattle.std.specs.Prelude.{◌≡◌, ℕ, true, false, List, [], ◌∷◌, ◌++◌, length, replicate}
use Rattle.checksum.specs.Fletcher.{checksum, valid}
use Rattle.name_hash.specs.Hash.{name_hash, name_len_and_hash}
use Rattle.node.specs.Node.{laid_out}
use Rattle.geometry.specs.BlockZero.{size_ok}
use Rattle.volume.specs.declared.Volume.{Volume}
use Rattle.lists.specs.Lists.{root_of}
use Rattle.paths.specs.Lookup.{lookup_path}
use Rattle.leaves.specs.Leaves.{value_or, refusal_in}

-- a leaf's fields of a level
abbrev levelled : ℕ → ℕ
levelled level = refusal_in (laid_out (record { flags = 2; level = level; nkeys = 0; toc_off = 0; toc_len = 0 }) 1 4096)

-- of hashes, block sizes and levels: what the definitions give, a line of the paper a line
unfoldable pub given : List ℕ
given =
    value_or 0 (name_hash true []) ∷ value_or 0 (name_hash false []) ∷ value_or 0 (name_len_and_hash true []) ∷ value_or 0 (name_len_and_hash false [])
    ∷ refusal_in (size_ok 4096) ∷ refusal_in (size_ok 65536)
    ∷ refusal_in (size_ok 2048) ∷ refusal_in (size_ok 12288) ∷ refusal_in (size_ok 131072)
    ∷ levelled 32 ∷ levelled 33
    ∷ []

-- what the paper says
unfoldable pub said : List ℕ
said =
    0x3FFFFF ∷ 0x3FFFFF ∷ 0xFFFFFC01 ∷ 0xFFFFFC01
    ∷ 0 ∷ 0
    ∷ 2 ∷ 2 ∷ 2
    ∷ 0 ∷ 2
    ∷ []

pub record MarkedLines : Type 0 where
  -- "checksum of 32 bytes, zero from byte 8 on, is 0xFFFFFFFFFFFFFFFF", whatever the first 8 are; "with the word at 8 equal to 1, 0x00000006FFFFFFF8"
  pub zero_from_8 : (first : List ℕ) → length first ≡ 8 → checksum (first ++ replicate 24 0) ≡ 0xFFFFFFFFFFFFFFFF
  pub one_at_8 : (first : List ℕ) → length first ≡ 8 → checksum (first ++ 1 ∷ replicate 23 0) ≡ 0x00000006FFFFFFF8
  -- "28 and 34 bytes invalid", whatever they are
  pub invalid_28 : (b : List ℕ) → length b ≡ 28 → valid b ≡ false
  pub invalid_34 : (b : List ℕ) → length b ≡ 34 → valid b ≡ false
  pub numbers : given ≡ said
  -- "paths "" and "//" are the root", in any volume of any image
  pub empty_is_root : (image : List ℕ) (v : Volume) (nodes : ℕ) → lookup_path image v [] nodes ≡ root_of image v nodes
  pub slashes_are_root : (image : List ℕ) (v : Volume) (nodes : ℕ) → lookup_path image v (47 ∷ 47 ∷ []) nodes ≡ root_of image v nodes
