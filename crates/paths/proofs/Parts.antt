-- The parts of a path from a place on, as a loop over the path finds them.
use Prim.Native.Nat.{zero-le, ℕ, zero, suc, ◌+◌, ◌-◌, ◌≤◌, ◌<◌}
use mathlib.Core.Path.{◌≡◌, refl, sym, ap, ◌∙◌}
use mathlib.Core.Bool.{Bool, true, false, not, beq}
use mathlib.Core.List.{List, [], ◌∷◌}
use lib.ListN.{length, get_or, take, drop, length-drop, drop_of_length-le}
use lib.Seq.{drop-cons, drop-drop}
use native.Mathlib.Omega.{arith}
use native.Mathlib.Numerals.{add-one}
use borrow.Author.Tests.{not-true, not-false}
use Rattle.error.specs.Answer.{pick, if_eq}
use Rattle.error.proofs.Laws.{eq_cases}
use Rattle.byte_fields.specs.Part.{part_of}
use Rattle.byte_fields.specs.declared.Span.{Span}
use Rattle.paths.specs.Parts.{is_separator, unless_empty, split_of, parts_of}
use Rattle.paths.specs.Inner.{leading, next_part}

-- the turns of the loop that passes separators, or what are none
module _ (x : List ℕ) (d : Bool) (i whole : ℕ) (p : i + leading d (drop i x) ≡ whole) where
  pub past_done : length x ≤ i → i ≡ whole
  unfolding leading
  past_done h = omega (arith, rw (drop_of_length-le x h) at p)

  module _ (s : Bool) (h : i < length x) (e : s ≡ is_separator (get_or x i 0)) where
    here : i + pick (beq s d) (suc (leading d (drop (suc i) x))) 0 ≡ whole
    unfolding leading
    here = rw e (rw (drop-cons x i 0 h) at p)

    pub past_stops : not (beq s d) ≡ true → i ≡ whole
    past_stops t = let k = rw (not-true (beq s d) t) at here in omega arith

    pub past_goes : not (beq s d) ≡ false → i + 1 + leading d (drop (i + 1) x) ≡ whole
    past_goes t =
        let k : i + suc (leading d (drop (suc i) x)) ≡ whole = rw (not-false (beq s d) t) at here in
        rw add-one (omega arith)

pub leading_le : (d : Bool) (x : List ℕ) → leading d x ≤ length x
unfolding leading
leading_le d [] = zero-le
leading_le d (b ∷ x) = of (leading_le d x) (beq (is_separator b) d)
  where
    of : leading d x ≤ length x → (t : Bool) → pick t (suc (leading d x)) 0 ≤ suc (length x)
    of h true = omega arith
    of h false = zero-le

-- none is left after those that were passed
leading_after : (d : Bool) (x : List ℕ) → leading d (drop (leading d x) x) ≡ 0
unfolding leading
leading_after d [] = refl
leading_after d (b ∷ x) = of (leading_after d x) (beq (is_separator b) d) refl
  where
    of : leading d (drop (leading d x) x) ≡ 0 → (t : Bool) → beq (is_separator b) d ≡ t → leading d (drop (pick t (suc (leading d x)) 0) (b ∷ x)) ≡ 0
    of h true e = h
    of h false e = rw e

-- at a byte that stands there, one of the two is passed
neither : (x : List ℕ) → leading true x ≡ 0 → leading false x ≡ 0 → x ≡ []
unfolding leading
neither [] h k = refl
neither (b ∷ x) h k = absurd (of (is_separator b) h k)
  where
    of : (t : Bool) → pick (beq t true) (suc (leading true x)) 0 ≡ 0 → pick (beq t false) (suc (leading false x)) 0 ≡ 0 → ⊥
    of true h k = omega arith
    of false h k = omega arith

-- separators at the head are passed
pub parts_skipped : (x : List ℕ) → parts_of (drop (leading true x) x) ≡ parts_of x
unfolding leading parts_of split_of
parts_skipped [] = refl
parts_skipped (b ∷ x) = of (parts_skipped x) (is_separator b) refl
  where
    of : parts_of (drop (leading true x) x) ≡ parts_of x → (t : Bool) → is_separator b ≡ t → parts_of (drop (pick (beq t true) (suc (leading true x)) 0) (b ∷ x)) ≡ parts_of (b ∷ x)
    of h true e = h ∙ (rw e)
    of h false e = refl

-- a path parted at a place
abbrev Halves : Type 0
Halves = List ℕ × List (List ℕ)

abbrev parted : ℕ → List ℕ → Halves
parted n x = (take n x, parts_of (drop n x))

-- what stands before the first separator
split_parts : (x : List ℕ) → split_of x ≡ parted (leading false x) x
unfolding leading parts_of split_of
split_parts [] = refl
split_parts (b ∷ x) = of (split_parts x) (is_separator b) refl
  where
    of : split_of x ≡ parted (leading false x) x → (t : Bool) → is_separator b ≡ t → split_of (b ∷ x) ≡ parted (pick (beq t false) (suc (leading false x)) 0) (b ∷ x)
    of h true e = rw e
    of h false e = rw e (ap (λ (s : Halves). (b ∷ s.0, s.1)) h)

-- a path that does not begin with a separator
first_part : (x : List ℕ) → (leading false x ≡ 0 → ⊥) → parts_of x ≡ take (leading false x) x ∷ parts_of (drop (leading false x) x)
unfolding parts_of
first_part x h = ap (λ (s : Halves). unless_empty s.0 s.1) (split_parts x) ∙ of (leading false x) x h (leading_le false x)
  where
    of : (n : ℕ) (y : List ℕ) → (n ≡ 0 → ⊥) → n ≤ length y → unless_empty (take n y) (parts_of (drop n y)) ≡ take n y ∷ parts_of (drop n y)
    of zero y k l = absurd (k refl)
    of (suc n) [] k l = absurd (omega arith)
    of (suc n) (b ∷ y) k l = refl

-- the parts from one on that may be empty, where there is none
unfoldable pub parts_with : List ℕ → Span → List (List ℕ)
parts_with x p = if_eq p.len 0 [] (part_of x p ∷ parts_of (drop (p.start + p.len) x))

-- the empty path has none
pub parts_empty : parts_of [] ≡ []
unfolding parts_of split_of
parts_empty = refl

-- the parts from a place at which no separator stands
from_start : (x : List ℕ) (s : ℕ) → leading true (drop s x) ≡ 0 → parts_with x (record { start = s; len = leading false (drop s x) }) ≡ parts_of (drop s x)
unfolding parts_with part_of
from_start x s h =
    eq_cases (λ z. z ≡ parts_of (drop s x))
    (λ e. rw (neither (drop s x) h e) (sym parts_empty))
    (λ e. rw (← drop-drop (leading false (drop s x)) s x) (sym (first_part (drop s x) e)))

module _ (x : List ℕ) (at : ℕ) where
  pub next_parts : parts_with x (next_part x at) ≡ parts_of (drop at x)
  unfolding next_part
  next_parts =
      let s = at + leading true (drop at x) in
      let e : drop s x ≡ drop (leading true (drop at x)) (drop at x) = sym (drop-drop (leading true (drop at x)) at x) in
      from_start x s (ap (leading true) e ∙ leading_after true (drop at x)) ∙ ap parts_of e ∙ parts_skipped (drop at x)

  pub next_is : (s t : ℕ) → s ≡ at + leading true (drop at x) → t ≡ s + leading false (drop s x) → ◌≡◌ {A = Span} (record { start = s; len = t - s }) (next_part x at)
  unfolding next_part
  next_is s t p q = let k : t - s ≡ leading false (drop s x) = omega arith in rw (k, p)

  pub next_from : at ≤ (next_part x at).start
  unfolding next_part
  next_from = omega arith

  pub next_in : at ≤ length x → (next_part x at).start + (next_part x at).len ≤ length x
  unfolding next_part
  next_in h =
      let s = at + leading true (drop at x) in
      omega (arith, leading_le true (drop at x), length-drop at x, leading_le false (drop s x), length-drop s x)
