-- An object with one word replaced: its bytes, its words and its stored checksum.
use Prim.Native.Nat.{ℕ, zero, suc, ◌+◌, ◌-◌, ◌*◌, ◌^◌, ◌≤◌, ◌<◌}
use mathlib.Core.Path.{◌≡◌, refl, sym, ap, ◌∙◌}
use mathlib.Core.List.{List, ◌++◌}
use native.Mathlib.Nat.{add-zero}
use native.Mathlib.Omega.{arith}
use lib.ListN.{length, get_or, take, drop, set, length-append, length-drop, get_or-append}
use lib.Seq.{length-take-le, get_or-append-add, get_or-take, get_or-drop}
use Rattle.byte_fields.specs.Number.{little}
use Rattle.byte_fields.proofs.Little.{little_length, little_back, little_same}
use Rattle.checksum.specs.Fletcher.{words_at}
use Rattle.byte_fields.specs.Number.{little_bytes}
use Rattle.wrong_word.specs.Mends.{replaced}

pub words_same : (n : ℕ) (b c : List ℕ) (off : ℕ) → ((i : ℕ) → off ≤ i → get_or b i 0 ≡ get_or c i 0) → words_at n b off ≡ words_at n c off
unfolding words_at
words_same zero b c off f = refl
words_same (suc n) b c off f = rw (little_same 4 b c off (λ i h k. f i h), words_same n b c (off + 4) (λ i h. f i (omega arith)))

pub words_length : (n : ℕ) (b : List ℕ) (off : ℕ) → length (words_at n b off) ≡ n
unfolding words_at
words_length zero b off = refl
words_length (suc n) b off = ap suc (words_length n b (off + 4))

pub word_at : (n : ℕ) (b : List ℕ) (off j : ℕ) → j < n → get_or (words_at n b off) j 0 ≡ little 4 b (off + 4 * j)
unfolding words_at
word_at zero b off j h = absurd (omega arith)
word_at (suc n) b off zero h = rw add-zero
word_at (suc n) b off (suc j) h =
    let q : off + 4 + 4 * j ≡ off + 4 * suc j = omega arith in
    word_at n b (off + 4) j (omega arith) ∙ ap (little 4 b) q

module _ (b : List ℕ) (p w : ℕ) (h : p + 4 ≤ length b) where
  front : length (take p b) ≡ p
  front = length-take-le p b (omega arith)

  pub replaced_length : length (replaced b p w) ≡ length b
  unfolding replaced
  replaced_length = simp (length-append, front, length-drop, little_length 4 w) (omega arith)

  before_same : (i : ℕ) → i < p → get_or (replaced b p w) i 0 ≡ get_or b i 0
  unfolding replaced
  before_same i k = get_or-append (take p b) _ 0 i (rw front k) ∙ get_or-take p b i 0 k

  past : (i : ℕ) → get_or (replaced b p w) (p + i) 0 ≡ get_or (little_bytes 4 w ++ drop (p + 4) b) i 0
  unfolding replaced
  past i = ap (λ (k : ℕ). get_or (take p b ++ (little_bytes 4 w ++ drop (p + 4) b)) (k + i) 0) (sym front) ∙ get_or-append-add (take p b) _ i 0

  within : (i : ℕ) → i < 4 → get_or (replaced b p w) (p + i) 0 ≡ get_or (little_bytes 4 w) i 0
  within i k = past i ∙ get_or-append (little_bytes 4 w) _ 0 i (rw (little_length 4 w) k)

  after_same : (i : ℕ) → p + 4 ≤ i → get_or (replaced b p w) i 0 ≡ get_or b i 0
  after_same i k =
      let q : p + (4 + (i - (p + 4))) ≡ i = omega arith in
      let q2 : p + 4 + (i - (p + 4)) ≡ i = omega arith in
      let e : get_or (little_bytes 4 w ++ drop (p + 4) b) (4 + (i - (p + 4))) 0 ≡ get_or b i 0
      = ap (λ (n : ℕ). get_or (little_bytes 4 w ++ drop (p + 4) b) (n + (i - (p + 4))) 0) (sym (little_length 4 w))
      ∙ (get_or-append-add (little_bytes 4 w) (drop (p + 4) b) (i - (p + 4)) 0 ∙ (get_or-drop (p + 4) b (i - (p + 4)) 0 ∙ ap (λ (n : ℕ). get_or b n 0) q2)) in
      ap (λ (n : ℕ). get_or (replaced b p w) n 0) (sym q) ∙ (past (4 + (i - (p + 4))) ∙ e)

  -- the replaced word
  pub replaced_word : w < 256 ^ 4 → little 4 (replaced b p w) p ≡ w
  replaced_word k = little_back 4 w (replaced b p w) p k within

  -- a number before it is as it was
  pub replaced_before : (n off : ℕ) → off + n ≤ p → little n (replaced b p w) off ≡ little n b off
  replaced_before n off k = little_same n (replaced b p w) b off (λ i l m. before_same i (omega arith))

  -- the words: that at the place p is w, all others are as they were
  pub replaced_words : w < 256 ^ 4 → (n off j : ℕ) → j < n → p ≡ off + 4 * j → words_at n (replaced b p w) off ≡ set (words_at n b off) j w
  unfolding words_at
  replaced_words k zero off j l e = absurd (omega arith)
  replaced_words k (suc n) off zero l e =
      let q : off ≡ p = omega arith in
      rw (q, replaced_word k, words_same n (replaced b p w) b (p + 4) after_same)
  replaced_words k (suc n) off (suc j) l e =
      rw (replaced_before 4 off (omega arith), replaced_words k n (off + 4) j (omega arith) (omega arith))
