-- A run of marks in canonical order: those of class 202, then those of class 230.
use Prim.Native.Nat.{ℕ}
use mathlib.Core.Path.{◌≡◌, refl, sym, ap, ◌∙◌}
use mathlib.Core.List.{List, [], ◌∷◌, ◌++◌}
use native.Mathlib.Omega.{arith}
use Rattle.error.proofs.Laws.{same, other, at_most_lem, above}
use Rattle.unicode_forms.specs.Data.{class_of}
use Rattle.unicode_forms.specs.Keys.{if_reorderable, place, canonical}
use Rattle.unicode_forms.specs.Runs.{marks, after_marks}
use Rattle.unicode_forms.proofs.Order.{Kind, starter, under, over, kind}

-- ---- one character before others

module _ {A : Type 0} (c d : ℕ) (x y : A) where
  stays : (class_of c ≡ 230 → class_of d ≡ 202 → ⊥) → if_reorderable c d x y ≡ y
  unfolding if_reorderable
  stays h = of (kind c) (kind d)
    where
      of : Kind c → Kind d → if_reorderable c d x y ≡ y
      of k (starter f) = sym (same _ _ _ _ _ f refl)
      of (starter e) (under f) = sym (other _ _ _ _ _ (λ z. omega arith) (at_most_lem _ _ _ _ _ (omega arith) refl))
      of (starter e) (over f) = sym (other _ _ _ _ _ (λ z. omega arith) (at_most_lem _ _ _ _ _ (omega arith) refl))
      of (under e) (under f) = sym (other _ _ _ _ _ (λ z. omega arith) (at_most_lem _ _ _ _ _ (omega arith) refl))
      of (under e) (over f) = sym (other _ _ _ _ _ (λ z. omega arith) (at_most_lem _ _ _ _ _ (omega arith) refl))
      of (over e) (under f) = absurd (h e f)
      of (over e) (over f) = sym (other _ _ _ _ _ (λ z. omega arith) (at_most_lem _ _ _ _ _ (omega arith) refl))

  swaps : class_of c ≡ 230 → class_of d ≡ 202 → if_reorderable c d x y ≡ x
  unfolding if_reorderable
  swaps e f = sym (other _ _ _ _ _ (λ z. omega arith) (above _ _ _ _ _ (omega arith) refl))

-- a list that does not begin with a mark below
abbrev Open : List ℕ → Type 0
Open [] = Unit
Open (d ∷ ds) = class_of d ≡ 202 → ⊥

place_open : (c : ℕ) (ds : List ℕ) → Open ds → place c ds ≡ c ∷ ds
unfolding place
place_open c [] o = refl
place_open c (d ∷ ds) o = stays c d _ _ (λ e f. o f)

place_first : (c : ℕ) (ds : List ℕ) → (class_of c ≡ 230 → ⊥) → place c ds ≡ c ∷ ds
unfolding place
place_first c [] h = refl
place_first c (d ∷ ds) h = stays c d _ _ (λ e f. h e)

-- a mark above goes past the marks below
abbrev Under : List ℕ → Type 0
Under [] = Unit
Under (d ∷ ds) = (class_of d ≡ 202) × Under ds

place_past : (c : ℕ) (ms ds : List ℕ) → class_of c ≡ 230 → Under ms → place c (ms ++ ds) ≡ ms ++ place c ds
unfolding place
place_past c [] ds h u = refl
place_past c (m ∷ ms) ds h u = swaps c m _ _ h u.0 ∙ ap (m ∷◌) (place_past c ms ds h u.1)

-- ---- a run

module _ (k c : ℕ) (cs : List ℕ) where
  marks_stop : class_of c ≡ 0 → marks k (c ∷ cs) ≡ []
  unfolding marks
  marks_stop h = sym (same _ _ _ _ _ h refl)

  marks_take : (class_of c ≡ 0 → ⊥) → class_of c ≡ k → marks k (c ∷ cs) ≡ c ∷ marks k cs
  unfolding marks
  marks_take h e = sym (other _ _ _ _ _ h (same _ _ _ _ _ e refl))

  marks_pass : (class_of c ≡ 0 → ⊥) → (class_of c ≡ k → ⊥) → marks k (c ∷ cs) ≡ marks k cs
  unfolding marks
  marks_pass h e = sym (other _ _ _ _ _ h (other _ _ _ _ _ e refl))

module _ (c : ℕ) (cs : List ℕ) where
  after_stop : class_of c ≡ 0 → after_marks (c ∷ cs) ≡ c ∷ cs
  unfolding after_marks
  after_stop h = sym (same _ _ _ _ _ h refl)

  after_pass : (class_of c ≡ 0 → ⊥) → after_marks (c ∷ cs) ≡ after_marks cs
  unfolding after_marks
  after_pass h = sym (other _ _ _ _ _ h refl)

marks_under : (cs : List ℕ) → Under (marks 202 cs)
unfolding marks
marks_under [] = tt
marks_under (c ∷ cs) = of (kind c) (marks_under cs)
  where
    of : Kind c → Under (marks 202 cs) → Under (marks 202 (c ∷ cs))
    of (starter h) u = rw (marks_stop 202 c cs h) tt
    of (under h) u = rw (marks_take 202 c cs (λ z. omega arith) h) (h, u)
    of (over h) u = rw (marks_pass 202 c cs (λ z. omega arith) (λ z. omega arith)) u

-- what follows the run begins with a starter, if at all
abbrev pub Starts : List ℕ → Type 0
Starts [] = Unit
Starts (c ∷ cs) = class_of c ≡ 0

pub after_starts : (cs : List ℕ) → Starts (after_marks cs)
unfolding after_marks
after_starts [] = tt
after_starts (c ∷ cs) = of (kind c) (after_starts cs)
  where
    of : Kind c → Starts (after_marks cs) → Starts (after_marks (c ∷ cs))
    of (starter h) s = rw (after_stop c cs h) h
    of (under h) s = rw (after_pass c cs (λ z. omega arith)) s
    of (over h) s = rw (after_pass c cs (λ z. omega arith)) s

pub canonical_starter : (c : ℕ) (cs : List ℕ) → class_of c ≡ 0 → canonical (c ∷ cs) ≡ c ∷ canonical cs
unfolding canonical
canonical_starter c cs h = place_first c (canonical cs) (λ z. omega arith)

open_after : (ds : List ℕ) → Starts ds → Open (canonical ds)
unfolding canonical
open_after [] s = tt
open_after (d ∷ ds) s = rw (canonical_starter d ds s) (λ z. omega arith)

open_marks : (cs ds : List ℕ) → Open ds → Open (marks 230 cs ++ ds)
unfolding marks
open_marks [] ds o = o
open_marks (c ∷ cs) ds o = of (kind c) (open_marks cs ds o)
  where
    of : Kind c → Open (marks 230 cs ++ ds) → Open (marks 230 (c ∷ cs) ++ ds)
    of (starter h) p = rw (marks_stop 230 c cs h) o
    of (under h) p = rw (marks_pass 230 c cs (λ z. omega arith) (λ z. omega arith)) p
    of (over h) p = rw (marks_take 230 c cs (λ z. omega arith) h) (λ z. omega arith)

-- the rule
pub canonical_run : (cs : List ℕ) → canonical cs ≡ marks 202 cs ++ (marks 230 cs ++ canonical (after_marks cs))
unfolding canonical marks after_marks
canonical_run [] = refl
canonical_run (c ∷ cs) = of (kind c) (canonical_run cs)
  where
    of : Kind c → canonical cs ≡ marks 202 cs ++ (marks 230 cs ++ canonical (after_marks cs))
        → canonical (c ∷ cs) ≡ marks 202 (c ∷ cs) ++ (marks 230 (c ∷ cs) ++ canonical (after_marks (c ∷ cs)))
    of (starter h) e = rw (marks_stop 202 c cs h, marks_stop 230 c cs h, after_stop c cs h)
    of (under h) e =
        place_first c (canonical cs) (λ z. omega arith)
        ∙ rw (marks_take 202 c cs (λ z. omega arith) h, marks_pass 230 c cs (λ z. omega arith) (λ z. omega arith), after_pass c cs (λ z. omega arith)) (ap (c ∷◌) e)
    of (over h) e =
        ap (place c) e
        ∙ place_past c (marks 202 cs) _ h (marks_under cs)
        ∙ ap (marks 202 cs ++◌) (place_open c _ (open_marks cs _ (open_after (after_marks cs) (after_starts cs))))
        ∙ rw (marks_pass 202 c cs (λ z. omega arith) (λ z. omega arith), marks_take 230 c cs (λ z. omega arith) h, after_pass c cs (λ z. omega arith))
