-- The table of document 01's marked lines holds: its numbers by computation, the line on paths by the laws of lookup.
use Rattle.std.proofs.Common.{◌≡◌, ℕ, false, List, [], ◌∷◌, ◌++◌, length, replicate, sym, refl, arith}
use lib.Count.{ones}
use Rattle.error.specs.Answer.{if_le, if_eq}
use Rattle.error.proofs.Laws.{at_most_lem, above, other}
use Rattle.byte_fields.specs.Number.{little}
use Rattle.checksum.specs.Fletcher.{words_at, words_of, sum, running, s1, s2, checksum, valid}
use Rattle.crc.specs.Crc.{crc}
use Rattle.name_hash.specs.Hash.{fold_all, utf32, name_hash, name_len_and_hash}
use Rattle.node.specs.Node.{laid_out}
use Rattle.geometry.specs.BlockZero.{size_ok}
use Rattle.paths.proofs.Root.{lookup_empty, lookup_slashes}
use Rattle.cases.specs.Marked.{MarkedLines, given, said}

-- what holds of eight elements, one by one, holds of a list of them
eight : (P : List ℕ → Type 0) → ((a b c d e f g h : ℕ) → P (a ∷ b ∷ c ∷ d ∷ e ∷ f ∷ g ∷ h ∷ [])) → (l : List ℕ) → length l ≡ 8 → P l
eight P k [] n = absurd (omega arith)
eight P k (a ∷ []) n = absurd (omega arith)
eight P k (a ∷ b ∷ []) n = absurd (omega arith)
eight P k (a ∷ b ∷ c ∷ []) n = absurd (omega arith)
eight P k (a ∷ b ∷ c ∷ d ∷ []) n = absurd (omega arith)
eight P k (a ∷ b ∷ c ∷ d ∷ e ∷ []) n = absurd (omega arith)
eight P k (a ∷ b ∷ c ∷ d ∷ e ∷ f ∷ []) n = absurd (omega arith)
eight P k (a ∷ b ∷ c ∷ d ∷ e ∷ f ∷ g ∷ []) n = absurd (omega arith)
eight P k (a ∷ b ∷ c ∷ d ∷ e ∷ f ∷ g ∷ h ∷ []) n = k a b c d e f g h
eight P k (a ∷ b ∷ c ∷ d ∷ e ∷ f ∷ g ∷ h ∷ x ∷ l) n = absurd (omega arith)

too_short : (b : List ℕ) → length b ≡ 28 → valid b ≡ false
unfolding valid
too_short b n = sym (above 32 (length b) _ _ _ (omega arith) refl)

not_of_words : (b : List ℕ) → length b ≡ 34 → valid b ≡ false
unfolding valid
not_of_words b n = sym (at_most_lem 32 (length b) _ _ _ (omega arith) (other _ _ _ _ _ (λ h. omega arith) refl))

pub marked : MarkedLines
unfolding if_le if_eq little words_at words_of sum running s1 s2 checksum crc fold_all utf32 name_hash name_len_and_hash laid_out size_ok ones given said
marked = record {
  zero_from_8 = eight (λ (l : List ℕ). checksum (l ++ replicate 24 0) ≡ 0xFFFFFFFFFFFFFFFF) (λ a b c d e f g h. refl);
  one_at_8 = eight (λ (l : List ℕ). checksum (l ++ 1 ∷ replicate 23 0) ≡ 0x00000006FFFFFFF8) (λ a b c d e f g h. refl);
  invalid_28 = too_short;
  invalid_34 = not_of_words;
  numbers = refl;
  empty_is_root = lookup_empty;
  slashes_are_root = lookup_slashes;
}
