-- The letters of a character: by the tables, by the arithmetic of Hangul, or the character itself.
use Prim.Native.Nat.{zero-le, ℕ, zero, suc, ◌+◌, ◌-◌, ◌/◌, ◌%◌, ◌≤◌, ◌<◌}
use mathlib.Core.Path.{◌≡◌, refl, sym, ap, ◌∙◌}
use mathlib.Core.Bool.{Bool, true, false, not, ◌&&◌}
use mathlib.Core.List.{List, [], ◌∷◌, append-nil}
use lib.Dec.{T, leb, leb→le}
use lib.ListN.{length, get_or, length-append}
use lib.Ieee.Fits.{and_l, and_r}
use borrow.Author.Tests.{not-true, not-false}
use native.Mathlib.Omega.{arith}
use native.Mathlib.Nat.{add-zero, zero-add, add-suc, suc-add, le_of_suc-le-suc, not-suc-le-zero}
use Rattle.error.specs.Answer.{pick, if_le, if_eq}
use Rattle.error.proofs.Laws.{same, other, above, le_cases, eq_cases}
use Rattle.utf8.specs.Text.{if_in, ◌to◌, same_bytes}
use Rattle.utf8.proofs.Equal.{same_equal}
use Rattle.utf8.proofs.Pieces.{inside, below, beyond, in_cases}
use Rattle.unicode_forms.specs.Data.{Row, rows, hangul, in_rows, decompose, lower_one, lower}
use Rattle.unicode_forms.specs.Keys.{flat, fold}
use Rattle.unicode_forms.specs.Stream.{small_of, letters_of}
use Rattle.keys.specs.Told.{expansion_of, unpacked}
use Rattle.keys.specs.declared.letters.Expansion.{Expansion}
use Rattle.keys.specs.declared.letters.Expansion.TheVariants.{One, Two, Three}
use Rattle.unicode_forms.proofs.Closed.{onward, of_onward, both, so, High, hangul_high, flat_high, lower_high}

-- ---- every character has some

abbrev Some : List ℕ → Type 0
Some [] = ⊥
Some (c ∷ cs) = Unit

rows_some : (rs : List Row) (c : ℕ) → Some (in_rows rs c)
unfolding in_rows
rows_some [] c = tt
rows_some (r ∷ rs) c = eq_cases Some (λ e. tt) (λ e. rows_some rs c)

decompose_some : (c : ℕ) → Some (decompose c)
unfolding decompose hangul
decompose_some c = in_cases Some (λ h k. tt) (le_cases Some (λ h. rows_some rows c) (λ h. tt))

fold_some : (caseless : Bool) (c : ℕ) → Some (fold caseless c)
unfolding fold lower
fold_some true c = eq_cases Some (λ e. tt) (λ e. tt)
fold_some false c = tt

some_length : (cs : List ℕ) → Some cs → 0 < length cs
some_length [] h = absurd h
some_length (c ∷ cs) h = omega arith

flat_some : (caseless : Bool) (cs : List ℕ) → Some cs → 0 < length (flat (fold caseless) cs)
unfolding flat
flat_some caseless [] h = absurd h
flat_some caseless (c ∷ cs) h = omega (arith, some_length (fold caseless c) (fold_some caseless c), length-append (fold caseless c) (flat (fold caseless) cs))

pub some_letters : (caseless : Bool) (c : ℕ) → 0 < length (letters_of caseless c)
unfolding letters_of
some_letters caseless c = flat_some caseless (decompose c) (decompose_some c)

-- ---- a word of a table

module _ (w s : ℕ) (e : s ≡ w / 65536) where
  pub unpack_one : s ≡ 0 → w % 65536 ∷ [] ≡ unpacked w
  unfolding unpacked
  unpack_one h = same _ _ _ _ _ (sym e ∙ h) refl

  pub unpack_two : (s ≡ 0 → ⊥) → w % 65536 ∷ s ∷ [] ≡ unpacked w
  unfolding unpacked
  unpack_two h = other _ _ _ _ _ (λ z. h (e ∙ z)) (ap (λ z. w % 65536 ∷ z ∷ []) e)

-- the rule of a table whose first word is that of i
abbrev pub table_rule : Bool → ℕ → List ℕ → Bool
table_rule caseless i [] = true
table_rule caseless i (w ∷ ws) = same_bytes (unpacked w) (letters_of caseless i) && table_rule caseless (suc i) ws

word : (caseless : Bool) (ws : List ℕ) (i k : ℕ) → T (table_rule caseless i ws) → k < length ws → unpacked (get_or ws k 0) ≡ letters_of caseless (i + k)
word caseless [] i k t h = absurd (not-suc-le-zero h)
word caseless (w ∷ ws) i zero t h = rw add-zero (same_equal _ _ (so _ (and_l (same_bytes (unpacked w) (letters_of caseless i)) (table_rule caseless (suc i) ws) t)))
word caseless (w ∷ ws) i (suc k) t h = rw (add-suc, ← suc-add) (word caseless ws (suc i) k (and_r (same_bytes (unpacked w) (letters_of caseless i)) (table_rule caseless (suc i) ws) t) (le_of_suc-le-suc h))

-- the test of a table gives its rule at each of its characters
pub by_word : (caseless : Bool) (ws : List ℕ) (i : ℕ) → T (table_rule caseless 0xC0 ws) → T (leb 192 (length ws)) → i < 192 → unpacked (get_or ws i 0) ≡ letters_of caseless (0xC0 + i)
by_word caseless ws i t l h = word caseless ws 0xC0 i t (omega (arith, leb→le 192 (length ws) l))

pub by_case : (caseless d : Bool) (w c : ℕ) (r : Expansion) → caseless ≡ d → unpacked w ≡ letters_of d c → expansion_of r ≡ unpacked w → expansion_of r ≡ letters_of caseless c
by_case caseless d w c r q h e = e ∙ h ∙ ap (λ z. letters_of z c) (sym q)

-- ---- below the tables: no letter but A to Z is lowered, and none decomposes

plain : ℕ → Bool
plain c = same_bytes (letters_of false c) (small_of false c ∷ []) && same_bytes (letters_of true c) (small_of true c ∷ [])

-- computed, U+0000 to U+00BF
all_plain : T (onward plain 0xC0 0)
unfolding onward plain small_of same_bytes letters_of flat fold decompose in_rows lower lower_one if_in if_le if_eq
all_plain = tt

pub plain_small : (c : ℕ) → c < 0xC0 → (caseless : Bool) → small_of caseless c ∷ [] ≡ letters_of caseless c
unfolding plain
plain_small c h =
    let t = both (same_bytes (letters_of false c) (small_of false c ∷ [])) (same_bytes (letters_of true c) (small_of true c ∷ [])) (of_onward plain 0xC0 0 c all_plain zero-le h) in
    of (sym (same_equal _ _ (so _ t.0))) (sym (same_equal _ _ (so _ t.1)))
  where
    of : small_of false c ∷ [] ≡ letters_of false c → small_of true c ∷ [] ≡ letters_of true c → (caseless : Bool) → small_of caseless c ∷ [] ≡ letters_of caseless c
    of p q true = q
    of p q false = p

-- the turns of both functions that give a small letter
module _ (c : ℕ) (caseless : Bool) where
  pub small_exact : not caseless ≡ true → c ≡ small_of caseless c
  unfolding small_of
  small_exact e = rw (not-true caseless e)

  module _ (e : not caseless ≡ false) where
    folds : if_in c (0x41 to 0x5A) (c + 32) c ≡ small_of caseless c
    unfolding small_of
    folds = rw (not-false caseless e)

    pub small_under : c < 0x41 → c ≡ small_of caseless c
    small_under l = below _ _ _ _ _ _ l refl ∙ folds

    pub small_capital : 0x41 ≤ c → c ≤ 0x5A → c + 32 ≡ small_of caseless c
    small_capital l k = inside _ _ _ _ _ _ l k refl ∙ folds

    pub small_over : 0x41 ≤ c → 0x5A < c → c ≡ small_of caseless c
    small_over l k = beyond _ _ _ _ _ _ l k refl ∙ folds

pub letters_small : (caseless : Bool) (c x : ℕ) → c < 0xC0 → x ≡ small_of caseless c → x ∷ [] ≡ letters_of caseless c
letters_small caseless c x h e = ap (◌∷ []) e ∙ plain_small c h caseless

pub letters_table : (caseless : Bool) (c : ℕ) (r : Expansion) → 0xC0 ≤ c → expansion_of r ≡ letters_of caseless (0xC0 + (c - 0xC0)) → expansion_of r ≡ letters_of caseless c
letters_table caseless c r h e = let q : 0xC0 + (c - 0xC0) ≡ c = omega arith in e ∙ ap (letters_of caseless) q

-- ---- above the tables

fold_high : (caseless : Bool) (cs : List ℕ) → High cs → flat (fold caseless) cs ≡ cs
unfolding flat fold
fold_high caseless [] h = refl
fold_high true (c ∷ cs) h = rw (lower_high c h.0, fold_high true cs h.1)
fold_high false (c ∷ cs) h = rw (fold_high false cs h.1)

module _ (caseless : Bool) (c : ℕ) where
  pub letters_plain : 0x180 ≤ c → c < 0xAC00 → c ∷ [] ≡ letters_of caseless c
  unfolding letters_of decompose
  letters_plain h k = let e : c ∷ [] ≡ decompose c = below _ _ _ _ _ _ k (above _ _ _ _ _ (omega arith) refl) in
      sym (fold_high caseless (c ∷ []) (h, tt)) ∙ ap (flat (fold caseless)) e

  pub letters_beyond : 0xAC00 ≤ c → 0xD7A3 < c → c ∷ [] ≡ letters_of caseless c
  unfolding letters_of decompose
  letters_beyond h k = let e : c ∷ [] ≡ decompose c = beyond _ _ _ _ _ _ h k (above _ _ _ _ _ (omega arith) refl) in
      sym (fold_high caseless (c ∷ []) (omega arith, tt)) ∙ ap (flat (fold caseless)) e

  pub letters_syllable : (r : Expansion) → 0xAC00 ≤ c → c ≤ 0xD7A3 → expansion_of r ≡ hangul (c - 0xAC00) → expansion_of r ≡ letters_of caseless c
  unfolding letters_of decompose
  letters_syllable r h k e = let q : hangul (c - 0xAC00) ≡ decompose c = inside _ _ _ _ _ _ h k refl in
      e ∙ sym (fold_high caseless (hangul (c - 0xAC00)) (hangul_high (c - 0xAC00))) ∙ ap (flat (fold caseless)) q

module _ (s : ℕ) where
  pub syllable_two : s % 28 ≡ 0 → (0x1100 + s / 588) ∷ (0x1161 + s % 588 / 28) ∷ [] ≡ hangul s
  unfolding hangul
  syllable_two h = ap (λ z. (0x1100 + s / 588) ∷ (0x1161 + s % 588 / 28) ∷ z) (same _ _ _ _ _ h refl)

  pub syllable_three : (s % 28 ≡ 0 → ⊥) → (0x1100 + s / 588) ∷ (0x1161 + s % 588 / 28) ∷ (0x11A7 + s % 28) ∷ [] ≡ hangul s
  unfolding hangul
  syllable_three h = ap (λ z. (0x1100 + s / 588) ∷ (0x1161 + s % 588 / 28) ∷ z) (other _ _ _ _ _ h refl)
