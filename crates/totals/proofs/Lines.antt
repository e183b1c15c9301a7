-- A text's first line and the others; a line and what follows it count for what each of the two counts for.
use Prim.Native.Nat.{zero-le, ℕ, suc, ◌≤◌}
use mathlib.Core.Path.{◌≡◌, refl, sym, ap, ◌∙◌}
use mathlib.Core.Bool.{Bool, true, false}
use mathlib.Core.List.{List, [], ◌∷◌, ◌++◌}
use native.Mathlib.Omega.{arith}
use native.Mathlib.Nat.{add_assoc}
use lib.Dec.{eqb}
use lib.ListN.{length, take, drop}
use Rattle.error.specs.Answer.{pick, if_eq}
use Rattle.error.proofs.Laws.{same, other, eq_cases}
use Rattle.totals.specs.declared.Totals.{Totals}
use Rattle.totals.specs.Totals.{longer, lines_of, line_length, line_totals, plus, all_lines, totals_of}

pub length_le : (x : List ℕ) → line_length x ≤ length x
unfolding line_length
length_le [] = zero-le
length_le (c ∷ x) = eq_cases (λ n. n ≤ suc (length x)) (λ e. zero-le) (λ e. omega (arith, length_le x))

split : (c : ℕ) (x : List ℕ) → longer c (lines_of x) ≡ (c ∷ take (line_length x) x) ∷ lines_of (drop (suc (line_length x)) x)
    → lines_of (c ∷ x) ≡ take (line_length (c ∷ x)) (c ∷ x) ∷ lines_of (drop (suc (line_length (c ∷ x))) (c ∷ x))
unfolding lines_of line_length if_eq
split c x h = of (eqb c 10)
  where
    of : (b : Bool) → pick b ([] ∷ lines_of x) (longer c (lines_of x)) ≡ take (pick b 0 (suc (line_length x))) (c ∷ x) ∷ lines_of (drop (suc (pick b 0 (suc (line_length x)))) (c ∷ x))
    of true = refl
    of false = h

-- a text that is not empty has a first line
pub first_line : (c : ℕ) (x : List ℕ) → lines_of (c ∷ x) ≡ take (line_length (c ∷ x)) (c ∷ x) ∷ lines_of (drop (suc (line_length (c ∷ x))) (c ∷ x))
unfolding lines_of line_length
first_line c [] = split c [] refl
first_line c (d ∷ x) = split c (d ∷ x) (ap (longer c) (first_line d x))

pub plus_assoc : (t u v : Totals) → plus (plus t u) v ≡ plus t (plus u v)
plus_assoc t u v = rw (add_assoc, add_assoc, add_assoc)

-- a text without LF
abbrev pub Unbroken : List ℕ → Type 0
Unbroken [] = Unit
Unbroken (c ∷ x) = (c ≡ 10 → ⊥) × Unbroken x

pub line_then : (l x : List ℕ) → Unbroken l → lines_of (l ++ 10 ∷ x) ≡ l ∷ lines_of x
unfolding lines_of
line_then [] x h = sym (same 10 10 _ _ _ refl refl)
line_then (c ∷ l) x h = sym (other c 10 _ _ _ h.0 refl) ∙ ap (longer c) (line_then l x h.1)

pub totals_then : (l x : List ℕ) → Unbroken l → totals_of (l ++ 10 ∷ x) ≡ plus (line_totals l) (totals_of x)
unfolding totals_of all_lines
totals_then l x h = ap all_lines (line_then l x h)
