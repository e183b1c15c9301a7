-- Choosing entry after entry is choosing in the whole list.
use Prim.Native.Nat.{ℕ}
use mathlib.Core.Path.{◌≡◌, refl, sym, ◌∙◌}
use mathlib.Core.Bool.{Bool, true, false}
use mathlib.Core.List.{List, [], ◌∷◌}
use native.Mathlib.Omega.{arith}
use Rattle.error.specs.Answer.{Answer, Ok, Err, pick}
use Rattle.error.specs.declared.Refusal.TheVariants.{NotFound, CharacterNotCovered}
use Rattle.error.proofs.Laws.{picked, not_picked}
use Rattle.utf8.specs.Text.{lossy, same_bytes}
use Rattle.utf8.proofs.Equal.{same_equal, equal_same, unlike}
use Rattle.records.specs.declared.directory.Entry.{Entry}
use Rattle.volume.specs.Rule.{insensitive}
use Rattle.paths.specs.Names.{wide, same_keys}
use Rattle.paths.specs.Find.{exact_match, key_match, find_entry}
use Rattle.paths.specs.Inner.{none_yet, unless_exact, by_key, weighed, settled}
use Rattle.volume.specs.declared.rule.NameRule.{NameRule}
use Rattle.paths.specs.declared.choose.Choice.{Choice}
use Rattle.paths.specs.declared.choose.Choice.TheVariants.{Open, Exact, Keyed, No}
use Rattle.paths.proofs.Keys.{wide_reading, ascii_reading}

-- an ASCII name is compared as it stands
module _ (rule : NameRule) (name p : List ℕ) (e : Entry) (k : Bool) (h : k ≡ wide name) where
  pub key_wide : k ≡ true → No CharacterNotCovered ≡ by_key rule (lossy name) p e
  unfolding by_key
  key_wide t = picked _ _ _ _ (wide_reading name ∙ sym h ∙ t) refl

  pub key_ascii : (z : Choice) → k ≡ false → z ≡ pick (same_keys rule.case_insensitive rule.normalization_insensitive p name) (Keyed e) Open → z ≡ by_key rule (lossy name) p e
  unfolding by_key
  key_ascii z t g =
      let w : wide name ≡ false = sym h ∙ t in
      not_picked _ _ _ _ (wide_reading name ∙ w) (rw (ascii_reading name w) g)

-- equality of bytes goes both ways
pub same_sym : (a b : List ℕ) → same_bytes a b ≡ same_bytes b a
same_sym a b = of (same_bytes a b) refl
  where
    of : (d : Bool) → same_bytes a b ≡ d → d ≡ same_bytes b a
    of true e = rw (same_equal a b e) (sym (equal_same b))
    of false e = unlike b a (λ q. absurd (let z : same_bytes a b ≡ true = rw q (equal_same a) in let y : ◌≡◌ {A = ℕ} 0 1 = cc in omega arith))

module _ (rule : NameRule) (name : Entry → List ℕ) (p : List ℕ) where
  -- what is chosen in the list that is left, by what is known before it
  unfoldable pub chosen : Choice → List Entry → Answer Entry
  chosen Open es = exact_match name p es (key_match rule name p es)
  chosen (Exact x) es = Ok x
  chosen (Keyed x) es = exact_match name p es (Ok x)
  chosen (No w) es = exact_match name p es (Err w)

  pub chosen_start : (es : List Entry) → chosen (none_yet rule p) es ≡ find_entry rule name p es
  unfolding chosen none_yet find_entry
  chosen_start es = of (insensitive rule) (wide p)
    where
      of : (d t : Bool) → chosen (pick d (pick t (No CharacterNotCovered) Open) (No NotFound)) es ≡ exact_match name p es (pick d (pick t (Err CharacterNotCovered) (key_match rule name p es)) (Err NotFound))
      of true true = refl
      of true false = refl
      of false t = refl

  -- an entry that is not exactly equal, or is
  exact_next : (e : Entry) (es : List Entry) (c : Choice) (other : Answer Entry) → chosen c es ≡ exact_match name p es other → chosen (unless_exact (name e) p e c) es ≡ exact_match name p (e ∷ es) other
  unfolding chosen unless_exact exact_match
  exact_next e es c other h = rw (same_sym (name e) p) (of (same_bytes p (name e)))
    where
      of : (d : Bool) → chosen (pick d (Exact e) c) es ≡ pick d (Ok e) (exact_match name p es other)
      of true = refl
      of false = h

  key_next : (e : Entry) (es : List Entry) → chosen (by_key rule (name e) p e) es ≡ exact_match name p es (key_match rule name p (e ∷ es))
  unfolding chosen by_key key_match
  key_next e es = of (wide (name e)) (same_keys rule.case_insensitive rule.normalization_insensitive p (name e))
    where
      of : (d t : Bool) → chosen (pick d (No CharacterNotCovered) (pick t (Keyed e) Open)) es ≡ exact_match name p es (pick d (Err CharacterNotCovered) (pick t (Ok e) (key_match rule name p es)))
      of true t = refl
      of false true = refl
      of false false = refl

  pub chosen_next : (c : Choice) (e : Entry) (es : List Entry) → chosen c (e ∷ es) ≡ chosen (weighed rule (name e) p e c) es
  unfolding chosen weighed
  chosen_next Open e es = sym (exact_next e es _ _ (key_next e es))
  chosen_next (Exact x) e es = refl
  chosen_next (Keyed x) e es = sym (exact_next e es _ _ refl)
  chosen_next (No w) e es = sym (exact_next e es _ _ refl)

  pub chosen_end : (c : Choice) → chosen c [] ≡ settled c
  unfolding chosen exact_match key_match
  chosen_end Open = refl
  chosen_end (Exact x) = refl
  chosen_end (Keyed x) = refl
  chosen_end (No w) = refl
