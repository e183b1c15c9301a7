-- An ASCII character of a name: it is covered, and its letter is itself, in lower case where case does not count.
use Prim.Native.Nat.{zero-le, ℕ, zero, suc, ◌+◌, ◌≤◌, ◌<◌}
use mathlib.Core.Path.{◌≡◌, refl, sym, ap, ◌∙◌}
use mathlib.Core.Bool.{Bool, true, false}
use mathlib.Core.List.{List, [], ◌∷◌}
use lib.ListN.{length, get_or, drop}
use lib.Seq.{drop-cons}
use native.Mathlib.Omega.{arith}
use native.Mathlib.Numerals.{add-one}
use Rattle.error.specs.Answer.{pick}
use Rattle.error.proofs.Laws.{picked, not_picked, le_cases}
use Rattle.utf8.specs.Text.{ascii}
use Rattle.utf8.specs.Characters.{scalar_of, characters}
use Rattle.utf8.proofs.Ascii.{one_piece}
use Rattle.utf8.proofs.Characters.{characters_end, characters_next}
use Rattle.utf8.proofs.Pieces.{inside}
use Rattle.unicode_forms.specs.Data.{any_in, covered}
use Rattle.unicode_forms.specs.Keys.{flat, all_covered, covered_text, same_keys}
use Rattle.unicode_forms.specs.Stream.{letters_of, letters, small_of}
use Rattle.keys.specs.Told.{left_of, same_or, keys_say}
use Rattle.keys.specs.declared.matching.Verdict.{Verdict}
use Rattle.keys.specs.declared.matching.Verdict.TheVariants.{Uncovered}
use Rattle.keys.specs.declared.stream.Cursor.{Cursor}
use Rattle.keys.specs.declared.stream.Pending.TheVariants as pending
use Rattle.keys.proofs.LetterLaws.{plain_small}

ascii_character : (x : ℕ) (b : List ℕ) → x ≤ 127 → characters (x ∷ b) ≡ x ∷ characters b
unfolding scalar_of
ascii_character x b h = rw (characters_next (x ∷ b), one_piece x b h)

pub ascii_letters : (caseless : Bool) (x : ℕ) (b : List ℕ) → x ≤ 127 → letters caseless (x ∷ b) ≡ small_of caseless x ∷ letters caseless b
unfolding letters flat
ascii_letters caseless x b h = rw (ascii_character x b h, ← plain_small x (omega arith) caseless)

pub ascii_at : (b : List ℕ) (i : ℕ) → ascii b ≡ true → i < length b → get_or b i 0 ≤ 127
unfolding ascii
ascii_at [] i = λ e k. absurd (omega arith)
ascii_at (x ∷ b) zero = le_cases (λ (t : Bool). t ≡ true → 0 < length (x ∷ b) → x ≤ 127) (λ h e k. h) (λ h e k. absurd (let z : ◌≡◌ {A = ℕ} 0 1 = cc in omega arith))
ascii_at (x ∷ b) (suc i) =
    le_cases (λ (t : Bool). t ≡ true → suc i < length (x ∷ b) → get_or b i 0 ≤ 127) (λ h e k. ascii_at b i e (omega arith)) (λ h e k. absurd (let z : ◌≡◌ {A = ℕ} 0 1 = cc in omega arith))

-- as the stream gives it
pub first_ascii : (caseless : Bool) (b : List ℕ) (at x : ℕ) → at < length b → get_or b at 0 ≤ 127 → x ≡ small_of caseless (get_or b at 0)
    → x ∷ left_of caseless b (record { at = at + 1; pending = pending.Nothing }) ≡ letters caseless (drop at b)
unfolding left_of
first_ascii caseless b at x h k e = rw (e, add-one, drop-cons b at 0 h) (sym (ascii_letters caseless (get_or b at 0) (drop (suc at) b) k))

ascii_covered : (x : ℕ) → x ≤ 127 → covered x ≡ true
unfolding any_in
ascii_covered x h = sym (inside x 0 0x017F _ _ _ zero-le (omega arith) refl)

-- a name of them is covered
all_ascii : (b : List ℕ) → ascii b ≡ true → covered_text b ≡ true
unfolding ascii covered_text all_covered
all_ascii [] = λ e. ap all_covered characters_end
all_ascii (x ∷ b) = le_cases (λ (t : Bool). t ≡ true → all_covered (characters (x ∷ b)) ≡ true)
    (λ h e. rw (ascii_character x b h, ascii_covered x h) (all_ascii b e))
    (λ h e. absurd (let z : ◌≡◌ {A = ℕ} 0 1 = cc in omega arith))

pub covers_all : (b : List ℕ) (t : Bool) → t ≡ ascii b → t ≡ true → true ≡ covered_text b
covers_all b t e h = sym (all_ascii b (sym e ∙ h))

-- as the test of a name passes it
pub covers_ascii : (b : List ℕ) (at : ℕ) (whole : Bool) → covered_text (drop at b) ≡ whole → at < length b → get_or b at 0 ≤ 127 → covered_text (drop (at + 1) b) ≡ whole
unfolding covered_text all_covered
covers_ascii b at whole i h k =
    rw (add-one, ← i, drop-cons b at 0 h, ascii_character (get_or b at 0) (drop (suc at) b) k, ascii_covered (get_or b at 0) k)

-- what the keys of a part say of a name
module _ (caseless : Bool) (p name : List ℕ) (k : Bool) (r : Verdict) where
  pub say_ascii : k ≡ ascii name → k ≡ true → (s : Bool) → s ≡ same_keys caseless p name → r ≡ same_or s → r ≡ keys_say caseless p name
  unfolding keys_say
  say_ascii h t s e f = picked _ _ _ _ (all_ascii name (sym h ∙ t)) (f ∙ ap same_or e)

  module _ (h : k ≡ covered_text name) where
    pub say_covered : k ≡ true → (s : Bool) → s ≡ same_keys caseless p name → r ≡ same_or s → r ≡ keys_say caseless p name
    unfolding keys_say
    say_covered t s e f = picked _ _ _ _ (sym h ∙ t) (f ∙ ap same_or e)

    pub say_uncovered : k ≡ false → r ≡ Uncovered → r ≡ keys_say caseless p name
    unfolding keys_say
    say_uncovered t f = not_picked _ _ _ _ (sym h ∙ t) f

pub is_true : (k d : Bool) → k ≡ d → k ≡ true → d ≡ true
is_true k d e h = sym e ∙ h
