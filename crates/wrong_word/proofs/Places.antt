-- Which words at a place make an object valid: those of one residue, or none.
use Prim.Native.Nat.{ℕ, zero, suc, ◌+◌, ◌-◌, ◌*◌, ◌/◌, ◌%◌, ◌^◌, ◌≤◌, ◌<◌}
use mathlib.Core.Path.{◌≡◌, refl, sym, ap, ◌∙◌}
use mathlib.Core.Bool.{Bool, true, false}
use mathlib.Core.List.{List, [], ◌∷◌}
use native.Mathlib.Decide.{ℕ_discrete}
use native.Mathlib.Omega.{arith}
use lib.ListN.{length, get_or, set}
use Rattle.error.specs.Answer.{if_eq}
use Rattle.error.proofs.Laws.{same, other}
use Rattle.byte_fields.specs.Number.{little}
use Rattle.checksum.specs.Fletcher.{M, words_at, words_of, s1, s2, valid}
use Rattle.wrong_word.specs.Mends.{Mend, mend, replaced, mends_at}
use Rattle.wrong_word.specs.Inner.{words_of_residue, Sound, gap, Closes}
use Rattle.wrong_word.proofs.Words.{words_length, word_at, replaced_length, replaced_before, replaced_words}
use Rattle.wrong_word.proofs.Swap.{swap_sum, swap_running}
use Rattle.wrong_word.proofs.Sound.{valid_sound, sound_valid, closed, closing}

-- the j-th word of an object of the right length
module _ (b : List ℕ) (long : 32 ≤ length b) (even : length b % 4 ≡ 0) (low : little 4 b 0 < 256 ^ 4) (high : little 4 b 4 < 256 ^ 4)
    (j k : ℕ) (inside : k + j ≡ (length b - 8) / 4) (some : 0 < k) where
  abbrev place : ℕ
  place = 8 + 4 * j

  lies : place + 4 ≤ length b
  lies = omega arith

  module _ (v : ℕ) (h : v < 256 ^ 4) where
    words_swapped : words_of (replaced b place v) ≡ set (words_of b) j v
    unfolding words_of
    words_swapped =
        ap (λ (n : ℕ). words_at ((n - 8) / 4) (replaced b place v) 8) (replaced_length b place v lies)
        ∙ replaced_words b place v lies h ((length b - 8) / 4) 8 j (omega arith) refl

    count : k + j ≡ length (words_of b)
    unfolding words_of
    count = inside ∙ sym (words_length ((length b - 8) / 4) b 8)

    own : get_or (words_of b) j 0 ≡ little 4 b place
    unfolding words_of
    own = word_at ((length b - 8) / 4) b 8 j (omega arith)

    s1_swapped : s1 (replaced b place v) + little 4 b place ≡ s1 b + v
    unfolding s1
    s1_swapped = rw (words_swapped, ← own) (swap_sum (words_of b) j v (omega (arith, count)))

    s2_swapped : s2 (replaced b place v) + k * little 4 b place ≡ s2 b + k * v
    unfolding s2
    s2_swapped = rw (words_swapped, ← own) (swap_running 0 (words_of b) j v k count some)

    same_low : little 4 (replaced b place v) 0 ≡ little 4 b 0
    same_low = replaced_before b place v lies 4 0 (omega arith)

    same_high : little 4 (replaced b place v) 4 ≡ little 4 b 4
    same_high = replaced_before b place v lies 4 4 (omega arith)

    -- a replacement that makes the object valid closes the gap
    pub needed : valid (replaced b place v) ≡ true → Closes b k × (v % M ≡ (little 4 b place + gap b) % M)
    unfolding gap
    needed e =
        let w : Sound (s1 (replaced b place v)) (s2 (replaced b place v)) (little 4 b 0) (little 4 b 4)
        = rw (same_low, same_high) at (valid_sound (replaced b place v) (rw (replaced_length b place v lies) long) (rw (replaced_length b place v lies) even) (rw same_low low) (rw same_high high) e) in
        let c = closed (s1 b) (s2 b) (s1 (replaced b place v)) (s2 (replaced b place v)) (little 4 b 0) (little 4 b 4) (little 4 b place) v k (M - (s1 b + little 4 b 0 + little 4 b 4) % M) s1_swapped s2_swapped refl w in
        (record { low = w.low; high = w.high; meets = c.1 }, c.0)

    -- and one that closes it makes the object valid
    pub enough : Closes b k → v % M ≡ (little 4 b place + gap b) % M → valid (replaced b place v) ≡ true
    unfolding gap
    enough c e =
        let w : Sound (s1 (replaced b place v)) (s2 (replaced b place v)) (little 4 b 0) (little 4 b 4)
        = closing (s1 b) (s2 b) (s1 (replaced b place v)) (s2 (replaced b place v)) (little 4 b 0) (little 4 b 4) (little 4 b place) v k (M - (s1 b + little 4 b 0 + little 4 b 4) % M) s1_swapped s2_swapped refl c.low c.high e c.meets in
        sound_valid (replaced b place v) (rw (replaced_length b place v lies) long) (rw (replaced_length b place v lies) even) (rw same_low low) (rw same_high high)
        (rw (same_low, same_high) w)

not-true : (d : Bool) → (d ≡ true → ⊥) → d ≡ false
not-true true h = absurd (h refl)
not-true false h = refl

-- which of the words from w on are taken
module _ (b : List ℕ) (p : ℕ) where
  taken : (n w : ℕ) → valid (replaced b p w) ≡ true → mends_at b p (suc n) w ≡ mend p w ∷ mends_at b p n (w + 1)
  unfolding mends_at
  taken n w e = rw e

  passed : (n w : ℕ) → valid (replaced b p w) ≡ false → mends_at b p (suc n) w ≡ mends_at b p n (w + 1)
  unfolding mends_at
  passed n w e = rw e

  pub none_in : (n w : ℕ) → ((i : ℕ) → w ≤ i → i < w + n → valid (replaced b p i) ≡ false) → mends_at b p n w ≡ []
  unfolding mends_at
  none_in zero w f = refl
  none_in (suc n) w f = passed n w (f w (omega arith) (omega arith)) ∙ none_in n (w + 1) (λ i h k. f i (omega arith) (omega arith))

  pub one_in : (n w r : ℕ) → w ≤ r → r < w + n → valid (replaced b p r) ≡ true → ((i : ℕ) → w ≤ i → i < w + n → (i ≡ r → ⊥) → valid (replaced b p i) ≡ false) →
      mends_at b p n w ≡ mend p r ∷ []
  one_in zero w r h k e f = absurd (omega arith)
  one_in (suc n) w r h k e f = of (ℕ_discrete w r) (one_in n (w + 1) r)
    where
      of : Dec (w ≡ r) → (w + 1 ≤ r → r < w + 1 + n → valid (replaced b p r) ≡ true → ((i : ℕ) → w + 1 ≤ i → i < w + 1 + n → (i ≡ r → ⊥) → valid (replaced b p i) ≡ false) →
          mends_at b p n (w + 1) ≡ mend p r ∷ []) → mends_at b p (suc n) w ≡ mend p r ∷ []
      of (Dec.yes q) g =
          taken n w (rw q e)
          ∙ (ap (λ (l : List Mend). mend p w ∷ l) (none_in n (w + 1) (λ i x y. f i (omega arith) (omega arith) (λ z. omega arith)))
          ∙ ap (λ (x : ℕ). mend p x ∷ []) q)
      of (Dec.no q) g =
          passed n w (f w (omega arith) (omega arith) q)
          ∙ g (omega arith) (omega arith) e (λ i x y. f i (omega arith) (omega arith))

-- all words at the place of the j-th word
module _ (b : List ℕ) (long : 32 ≤ length b) (even : length b % 4 ≡ 0) (low : little 4 b 0 < 256 ^ 4) (high : little 4 b 4 < 256 ^ 4)
    (j k : ℕ) (inside : k + j ≡ (length b - 8) / 4) (some : 0 < k) where
  pub place_none : (Closes b k → ⊥) → mends_at b (8 + 4 * j) (2 ^ 32) 0 ≡ []
  place_none f =
      none_in b (8 + 4 * j) (2 ^ 32) 0
      (λ i h l. not-true (valid (replaced b (8 + 4 * j) i)) (λ e. f (needed b long even low high j k inside some i (omega arith) e).0))

  module _ (c : Closes b k) where
    abbrev residue : ℕ
    residue = (little 4 b (8 + 4 * j) + gap b) % M

    right : (i : ℕ) → i < 4294967296 → i % M ≡ residue → valid (replaced b (8 + 4 * j) i) ≡ true
    right i h e = enough b long even low high j k inside some i h c e

    wrong : (i : ℕ) → i < 4294967296 → (i % M ≡ residue → ⊥) → valid (replaced b (8 + 4 * j) i) ≡ false
    wrong i h f = not-true (valid (replaced b (8 + 4 * j) i)) (λ e. f (needed b long even low high j k inside some i h e).1)

    other_residue : (residue ≡ 0 → ⊥) → mends_at b (8 + 4 * j) (2 ^ 32) 0 ≡ mend (8 + 4 * j) residue ∷ []
    other_residue z =
        one_in b (8 + 4 * j) (2 ^ 32) 0 residue (omega arith) (omega arith) (right residue (omega arith) (omega arith))
        (λ i x y q. wrong i (omega arith) (λ e. q (omega arith)))

    zero_residue : residue ≡ 0 → mends_at b (8 + 4 * j) (2 ^ 32) 0 ≡ mend (8 + 4 * j) 0 ∷ mend (8 + 4 * j) (2 ^ 32 - 1) ∷ []
    zero_residue z =
        taken b (8 + 4 * j) 4294967295 0 (right 0 (omega arith) (sym z))
        ∙ ap (λ (l : List Mend). mend (8 + 4 * j) 0 ∷ l)
        (one_in b (8 + 4 * j) 4294967295 1 4294967295 (omega arith) (omega arith) (right 4294967295 (omega arith) (sym z))
        (λ i x y q. wrong i (omega arith) (λ e. q (omega arith))))

    pub place_some : mends_at b (8 + 4 * j) (2 ^ 32) 0 ≡ words_of_residue (8 + 4 * j) residue
    unfolding words_of_residue
    place_some = of (ℕ_discrete residue 0)
      where
        of : Dec (residue ≡ 0) → mends_at b (8 + 4 * j) (2 ^ 32) 0 ≡ if_eq residue 0 (mend (8 + 4 * j) 0 ∷ mend (8 + 4 * j) (2 ^ 32 - 1) ∷ []) (mend (8 + 4 * j) residue ∷ [])
        of (Dec.yes z) = same _ _ _ _ _ z (zero_residue z)
        of (Dec.no z) = other _ _ _ _ _ z (other_residue z)
