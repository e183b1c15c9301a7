-- A name's letters one after the other.
use Prim.Native.Nat.{ℕ, suc, ◌+◌, ◌-◌, ◌≤◌, ◌<◌}
use mathlib.Core.Path.{◌≡◌, refl, sym, ap, ◌∙◌}
use mathlib.Core.Bool.{Bool, true, false}
use mathlib.Core.List.{List, [], ◌∷◌, ◌++◌}
use lib.ListN.{length, take, drop, length-drop, drop_of_length-le}
use lib.Seq.{take_all, drop-drop}
use native.Mathlib.Omega.{arith}
use native.Mathlib.Nat.{le_of_eq}
use Rattle.error.proofs.Laws.{same, other}
use Rattle.utf8.specs.Text.{piece_of, size_of, same_bytes}
use Rattle.utf8.specs.Characters.{scalar_of, before, characters}
use Rattle.utf8.specs.declared.Piece.{Piece}
use Rattle.utf8.specs.declared.Piece.TheVariants.{End, WellFormed, IllFormed}
use Rattle.utf8.proofs.Pieces.{size_within, end_empty}
use Rattle.utf8.proofs.Characters.{characters_end, characters_next}
use Rattle.unicode_forms.specs.Data.{class_of}
use Rattle.unicode_forms.specs.Keys.{flat}
use Rattle.unicode_forms.specs.Stream.{letters_of, letters, without}
use Rattle.keys.specs.Told.{character_in, character_of, expansion_of, left_of, step_told, but_told}
use Rattle.keys.specs.declared.characters.Character.{Character}
use Rattle.keys.specs.declared.characters.Character.TheVariants as character
use Rattle.keys.specs.declared.letters.Expansion.{Expansion}
use Rattle.keys.specs.declared.letters.Expansion.TheVariants.{One, Two, Three}
use Rattle.keys.specs.declared.stream.Cursor.{Cursor}
use Rattle.keys.specs.declared.stream.Pending.TheVariants as pending
use Rattle.keys.specs.declared.stream.Step.{Step}
use Rattle.keys.specs.declared.stream.Step.TheVariants as step

pub letters_none : (caseless : Bool) → letters caseless [] ≡ []
unfolding letters flat
letters_none caseless = rw characters_end

-- the letters of the character at the head, and those of the rest
pub letters_first : (caseless : Bool) (b : List ℕ) (x n : ℕ) → character.At x n ≡ character_of b → letters caseless b ≡ letters_of caseless x ++ letters caseless (drop n b)
unfolding letters flat
letters_first caseless b x n e = of (piece_of b) (characters_next b) e
  where
    of : (p : Piece) → characters b ≡ before p b (characters (drop (size_of p) b)) → character.At x n ≡ character_in p b
        → flat (letters_of caseless) (characters b) ≡ letters_of caseless x ++ flat (letters_of caseless) (characters (drop n b))
    of End q k = absurd (let z : ◌≡◌ {A = ℕ} 0 1 = cc in omega arith)
    of (WellFormed m) q k =
        let f : x ≡ scalar_of (take m b) = cc in
        let g : n ≡ m = cc in
        rw (q, f, g)
    of (IllFormed m) q k =
        let f : x ≡ 0xFFFD = cc in
        let g : n ≡ m = cc in
        rw (q, f, g)

pub size_first : (b : List ℕ) (x n : ℕ) → character.At x n ≡ character_of b → n ≤ length b
size_first b x n e = of (piece_of b) (size_within b) e
  where
    of : (p : Piece) → size_of p ≤ length b → character.At x n ≡ character_in p b → n ≤ length b
    of End h k = absurd (let z : ◌≡◌ {A = ℕ} 0 1 = cc in omega arith)
    of (WellFormed m) h k = let g : n ≡ m = cc in omega arith
    of (IllFormed m) h k = let g : n ≡ m = cc in omega arith

pub end_first : (b : List ℕ) → character.End ≡ character_of b → b ≡ []
end_first b e = of (piece_of b) refl e
  where
    of : (p : Piece) → piece_of b ≡ p → character.End ≡ character_in p b → b ≡ []
    of End q k = end_empty b q
    of (WellFormed m) q k = absurd (let z : ◌≡◌ {A = ℕ} 0 1 = cc in omega arith)
    of (IllFormed m) q k = absurd (let z : ◌≡◌ {A = ℕ} 0 1 = cc in omega arith)

-- the character at a place of b, as the code asks for it
pub here : (b : List ℕ) (at : ℕ) (r : Character) → r ≡ character_of (take (length b - at) (drop at b)) → r ≡ character_of (drop at b)
here b at r p = rw (take_all (length b - at) (drop at b) (le_of_eq (length-drop at b))) at p

-- the characters of b from a place on, as the code asks for the first
module _ (caseless : Bool) (b : List ℕ) (at : ℕ) where
  pub first_none : length b ≤ at → [] ≡ letters caseless (drop at b)
  first_none h = rw (drop_of_length-le b h) (sym (letters_none caseless))

  module _ (r : Character) (p : r ≡ character_of (take (length b - at) (drop at b))) where
    pub first_end : r ≡ character.End → [] ≡ letters caseless (drop at b)
    first_end e = sym (ap (letters caseless) (end_first (drop at b) (sym e ∙ here b at r p)) ∙ letters_none caseless)

    pub first_fits : (x n : ℕ) → r ≡ character.At x n → at < length b → at + n ≤ length b
    first_fits x n e h = omega (arith, size_first (drop at b) x n (sym e ∙ here b at r p), length-drop at b)

    pub first_goes : (x n : ℕ) (w : Expansion) (s : Step) → r ≡ character.At x n → expansion_of w ≡ letters_of caseless x
        → step_told caseless b s ≡ expansion_of w ++ letters caseless (drop (at + n) b) → step_told caseless b s ≡ letters caseless (drop at b)
    first_goes x n w s e f g = g ∙ rw (f, ← drop-drop n at b) (sym (letters_first caseless (drop at b) x n (sym e ∙ here b at r p)))

-- the first letter of some, and what is then still to come
module _ (e : Expansion) (at x : ℕ) where
  pub open_one : e ≡ One x → (caseless : Bool) (b : List ℕ) → x ∷ left_of caseless b (record { at = at; pending = pending.Nothing }) ≡ expansion_of e ++ letters caseless (drop at b)
  unfolding left_of
  open_one h caseless b = rw h

  pub open_two : (y : ℕ) → e ≡ Two x y → (caseless : Bool) (b : List ℕ) → x ∷ left_of caseless b (record { at = at; pending = pending.One y }) ≡ expansion_of e ++ letters caseless (drop at b)
  unfolding left_of
  open_two y h caseless b = rw h

  pub open_three : (y z : ℕ) → e ≡ Three x y z → (caseless : Bool) (b : List ℕ) → x ∷ left_of caseless b (record { at = at; pending = pending.Two y z }) ≡ expansion_of e ++ letters caseless (drop at b)
  unfolding left_of
  open_three y z h caseless b = rw h

module _ (caseless : Bool) (b : List ℕ) (c : Cursor) where
  pub left_none : (s : Step) → c.pending ≡ pending.Nothing → step_told caseless b s ≡ letters caseless (drop c.at b) → step_told caseless b s ≡ left_of caseless b c
  unfolding left_of
  left_none s h e = rw h e

  pub left_one : (x : ℕ) → c.pending ≡ pending.One x → x ∷ left_of caseless b (record { at = c.at; pending = pending.Nothing }) ≡ left_of caseless b c
  unfolding left_of
  left_one x h = rw h

  pub left_two : (x y : ℕ) → c.pending ≡ pending.Two x y → x ∷ left_of caseless b (record { at = c.at; pending = pending.One y }) ≡ left_of caseless b c
  unfolding left_of
  left_two x y h = rw h

-- ---- without a class

module _ (k : ℕ) (caseless : Bool) (b : List ℕ) (s : Step) (left whole : List ℕ) (p : step_told caseless b s ≡ left) (i : without k left ≡ whole) where
  pub but_end : s ≡ step.End → [] ≡ whole
  unfolding without
  but_end e = rw (← p, e) at i

  module _ (x : ℕ) (c : Cursor) (e : s ≡ step.Letter x c) where
    pub but_stops : (m : ℕ) → m ≡ class_of x → (m ≡ k → ⊥) → x ∷ without k (left_of caseless b c) ≡ whole
    unfolding without
    but_stops m f h = other _ _ _ _ _ (λ z. h (f ∙ z)) refl ∙ (rw (← p, e) at i)

    pub but_goes : (m : ℕ) → m ≡ class_of x → m ≡ k → without k (left_of caseless b c) ≡ whole
    unfolding without
    but_goes m f h = same _ _ _ _ _ (sym f ∙ h) refl ∙ (rw (← p, e) at i)

    pub but_less : length (left_of caseless b c) < length left
    but_less = omega (arith, ap length p, ap (λ z. length (step_told caseless b z)) e)

-- ---- two names

pub compare_starts : (k : ℕ) (caseless : Bool) (i j : ℕ) (a b : List ℕ)
    → same_bytes (without k (left_of caseless a (record { at = i; pending = pending.Nothing }))) (without k (left_of caseless b (record { at = j; pending = pending.Nothing })))
    ≡ same_bytes (without k (letters caseless (drop i a))) (without k (letters caseless (drop j b)))
unfolding left_of
compare_starts k caseless i j a b = refl

module _ (k : ℕ) (caseless : Bool) (a b : List ℕ) (s t : Step) (left right : List ℕ) (whole : Bool)
    (p : but_told k caseless a s ≡ left) (q : but_told k caseless b t ≡ right) (i : same_bytes left right ≡ whole) where
  pub both_end : s ≡ step.End → t ≡ step.End → true ≡ whole
  unfolding same_bytes
  both_end e f = rw (← p, ← q, e, f) at i

  pub right_longer : (y : ℕ) (d : Cursor) → s ≡ step.End → t ≡ step.Letter y d → false ≡ whole
  unfolding same_bytes
  right_longer y d e f = rw (← p, ← q, e, f) at i

  module _ (x : ℕ) (c : Cursor) (e : s ≡ step.Letter x c) where
    pub left_longer : t ≡ step.End → false ≡ whole
    unfolding same_bytes
    left_longer f = rw (← p, ← q, e, f) at i

    module _ (y : ℕ) (d : Cursor) (f : t ≡ step.Letter y d) where
      pub letters_differ : (x ≡ y → ⊥) → false ≡ whole
      unfolding same_bytes
      letters_differ h = other _ _ _ _ _ h refl ∙ (rw (← p, ← q, e, f) at i)

      pub letters_agree : x ≡ y → same_bytes (without k (left_of caseless a c)) (without k (left_of caseless b d)) ≡ whole
      unfolding same_bytes
      letters_agree h = same _ _ _ _ _ h refl ∙ (rw (← p, ← q, e, f) at i)

pub letters_less : (k : ℕ) (caseless : Bool) (a : List ℕ) (s : Step) (left : List ℕ) (x : ℕ) (c : Cursor) → but_told k caseless a s ≡ left → s ≡ step.Letter x c
    → length (without k (left_of caseless a c)) < length left
letters_less k caseless a s left x c p e = omega (arith, ap length p, ap (λ z. length (but_told k caseless a z)) e)
