-- Two lists have the same canonical order exactly where they are the same without the marks of class 230, and without those of class 202: the order
-- never moves a mark past a starter or past one of its own class. So two names are compared in two goings-through, with nothing stored.
use Prim.Native.Nat.{ℕ, ◌<◌}
use mathlib.Core.Path.{◌≡◌, refl, sym, ap, ◌∙◌}
use mathlib.Core.Logic.{◌⊎◌, inl, inr}
use mathlib.Core.Bool.{Bool, true, false}
use mathlib.Core.List.{List, [], ◌∷◌}
use native.Mathlib.Omega.{arith}
use Rattle.error.proofs.Laws.{same, other, le_cases, eq_cases}
use Rattle.utf8.specs.Text.{same_bytes}
use Rattle.utf8.proofs.Equal.{same_equal, equal_same, unlike}
use Rattle.utf8.proofs.Pieces.{in_cases}
use Rattle.unicode_forms.specs.Data.{class_of}
use Rattle.unicode_forms.specs.Keys.{if_reorderable, place, canonical}
use Rattle.unicode_forms.specs.Stream.{without}

-- a starter, a mark below, a mark above
pub data Kind (c : ℕ) : Type 0 where
  starter : class_of c ≡ 0 → Kind c
  under : class_of c ≡ 202 → Kind c
  over : class_of c ≡ 230 → Kind c

kind_of_lem : (c n : ℕ) → class_of c ≡ n → (n ≡ 0) ⊎ ((n ≡ 202) ⊎ (n ≡ 230)) → Kind c
kind_of_lem c n e (inl h) = starter (e ∙ h)
kind_of_lem c n e (inr (inl h)) = under (e ∙ h)
kind_of_lem c n e (inr (inr h)) = over (e ∙ h)

pub kind : (c : ℕ) → Kind c
unfolding class_of
kind c = kind_of_lem c (class_of c) refl
    (in_cases (λ n. (n ≡ 0) ⊎ ((n ≡ 202) ⊎ (n ≡ 230))) (λ h k. inr (inr refl)) (in_cases (λ n. (n ≡ 0) ⊎ ((n ≡ 202) ⊎ (n ≡ 230))) (λ h k. inr (inl refl)) (inl refl)))

-- a pair that is reorderable is a mark above before one below
abbrev pub Fine : ℕ → ℕ → Type 0
Fine c d = class_of c ≡ 230 → class_of d ≡ 202 → ⊥

exchanged : (c d : ℕ) → (class_of d ≡ 0 → ⊥) → class_of d < class_of c → (class_of c ≡ 230) × (class_of d ≡ 202)
exchanged c d h l = of (kind c) (kind d)
  where
    of : Kind c → Kind d → (class_of c ≡ 230) × (class_of d ≡ 202)
    of (starter e) k = absurd (omega arith)
    of (under e) (starter f) = absurd (h f)
    of (under e) (under f) = absurd (omega arith)
    of (under e) (over f) = absurd (omega arith)
    of (over e) (starter f) = absurd (h f)
    of (over e) (under f) = (e, f)
    of (over e) (over f) = absurd (omega arith)

module _ {A : Type 0} (P : A → Type 0) (c d : ℕ) (x y : A) where
  reorder_cases : (class_of c ≡ 230 → class_of d ≡ 202 → P x) → (Fine c d → P y) → P (if_reorderable c d x y)
  unfolding if_reorderable
  reorder_cases f g =
      eq_cases P (λ h. g (λ a b. omega arith))
      (λ h. le_cases P (λ l. g (λ a b. omega arith)) (λ l. let e = exchanged c d h l in f e.0 e.1))

module _ (k c : ℕ) where
  pub drops : (cs : List ℕ) → class_of c ≡ k → without k (c ∷ cs) ≡ without k cs
  unfolding without
  drops cs h = sym (same _ _ _ _ _ h refl)

  pub keeps : (cs : List ℕ) → (class_of c ≡ k → ⊥) → without k (c ∷ cs) ≡ c ∷ without k cs
  unfolding without
  keeps cs h = sym (other _ _ _ _ _ h refl)

  pub alike : (a b : List ℕ) → without k a ≡ without k b → without k (c ∷ a) ≡ without k (c ∷ b)
  unfolding without
  alike a b e = rw e

-- ---- the order changes nothing of what is left without either class

abbrev pub Mark : ℕ → Type 0
Mark k = (k ≡ 202) ⊎ (k ≡ 230)

swap_without : (k c d : ℕ) (x ds : List ℕ) → Mark k → class_of c ≡ 230 → class_of d ≡ 202 → without k x ≡ without k (c ∷ ds) → without k (d ∷ x) ≡ without k (c ∷ d ∷ ds)
swap_without k c d x ds (inl m) hc hd e =
    drops k d x (hd ∙ sym m) ∙ e ∙ keeps k c ds (λ z. omega arith) ∙ ap (c ∷◌) (sym (drops k d ds (hd ∙ sym m))) ∙ sym (keeps k c (d ∷ ds) (λ z. omega arith))
swap_without k c d x ds (inr m) hc hd e =
    keeps k d x (λ z. omega arith) ∙ ap (d ∷◌) (e ∙ drops k c ds (hc ∙ sym m)) ∙ sym (keeps k d ds (λ z. omega arith)) ∙ sym (drops k c (d ∷ ds) (hc ∙ sym m))

place_without : (k c : ℕ) (ds : List ℕ) → Mark k → without k (place c ds) ≡ without k (c ∷ ds)
unfolding place
place_without k c [] m = refl
place_without k c (d ∷ ds) m =
    reorder_cases (λ z. without k z ≡ without k (c ∷ d ∷ ds)) c d _ _
    (λ hc hd. swap_without k c d (place c ds) ds m hc hd (place_without k c ds m))
    (λ h. refl)

pub canonical_without : (k : ℕ) (cs : List ℕ) → Mark k → without k (canonical cs) ≡ without k cs
unfolding canonical
canonical_without k [] m = refl
canonical_without k (c ∷ cs) m = place_without k c (canonical cs) m ∙ alike k c (canonical cs) cs (canonical_without k cs m)

-- ---- a list in order

abbrev Before : ℕ → List ℕ → Type 0
Before c [] = Unit
Before c (d ∷ ds) = Fine c d

abbrev pub Ordered : List ℕ → Type 0
Ordered [] = Unit
Ordered (c ∷ cs) = Before c cs × Ordered cs

under_before : (d : ℕ) (cs : List ℕ) → class_of d ≡ 202 → Before d cs
under_before d [] h = tt
under_before d (c ∷ cs) h = λ e f. omega arith

place_ordered : (c : ℕ) (ds : List ℕ) → Ordered ds → Ordered (place c ds)
unfolding place
place_ordered c [] o = (tt, tt)
place_ordered c (d ∷ ds) o =
    reorder_cases Ordered c d _ _
    (λ hc hd. (under_before d (place c ds) hd, place_ordered c ds o.1))
    (λ h. (h, o))

pub canonical_ordered : (cs : List ℕ) → Ordered (canonical cs)
unfolding canonical
canonical_ordered [] = tt
canonical_ordered (c ∷ cs) = place_ordered c (canonical cs) (canonical_ordered cs)

-- ---- and is known by what is left without either class

cons_head : {x y : ℕ} {a b : List ℕ} → x ∷ a ≡ y ∷ b → x ≡ y
cons_head e = cc

cons_tail : {x y : ℕ} {a b : List ℕ} → x ∷ a ≡ y ∷ b → a ≡ b
cons_tail e = cc

empty_not : {A : Type 0} {x : ℕ} {a : List ℕ} → [] ≡ x ∷ a → A
empty_not e = absurd (let z : ◌≡◌ {A = ℕ} 0 1 = cc in omega arith)

-- after a mark above, in order, what is left without these marks does not begin with one below
after_over : (x y : ℕ) (w b : List ℕ) → class_of y ≡ 230 → Ordered (y ∷ b) → without 230 b ≡ x ∷ w → class_of x ≡ 202 → ⊥
unfolding without
after_over x y w [] hy o e hx = empty_not e
after_over x y w (z ∷ b) hy o e hx = of (kind z) (λ h. after_over x z w b h o.1 (sym (drops 230 z b h) ∙ e) hx)
  where
    of : Kind z → (class_of z ≡ 230 → ⊥) → ⊥
    of (starter h) f = let q : z ≡ x = cons_head (sym (keeps 230 z b (λ k. omega arith)) ∙ e) in let c : class_of z ≡ class_of x = ap class_of q in omega arith
    of (under h) f = o.0 hy h
    of (over h) f = f h

module _ (x y : ℕ) (a b : List ℕ) (p : without 230 (x ∷ a) ≡ without 230 (y ∷ b)) (q : without 202 (x ∷ a) ≡ without 202 (y ∷ b)) where
  -- the heads, where both are kept without a class
  heads : (k : ℕ) → without k (x ∷ a) ≡ without k (y ∷ b) → (class_of x ≡ k → ⊥) → (class_of y ≡ k → ⊥) → (x ≡ y) × (without k a ≡ without k b)
  heads k e hx hy = let z : x ∷ without k a ≡ y ∷ without k b = sym (keeps k x a hx) ∙ e ∙ keeps k y b hy in (cons_head z, cons_tail z)

  tails : (k : ℕ) → without k (x ∷ a) ≡ without k (y ∷ b) → class_of x ≡ k → class_of y ≡ k → without k a ≡ without k b
  tails k e hx hy = sym (drops k x a hx) ∙ e ∙ drops k y b hy

  clash : {A : Type 0} (m n : ℕ) → class_of x ≡ m → class_of y ≡ n → (m ≡ n → ⊥) → x ≡ y → A
  clash m n hx hy h e = let c : class_of x ≡ class_of y = ap class_of e in absurd (h (sym hx ∙ c ∙ hy))

  heads_same : Ordered (x ∷ a) → Ordered (y ∷ b) → (x ≡ y) × (without 230 a ≡ without 230 b) × (without 202 a ≡ without 202 b)
  heads_same o r = of (kind x) (kind y)
    where
      of : Kind x → Kind y → (x ≡ y) × (without 230 a ≡ without 230 b) × (without 202 a ≡ without 202 b)
      of (starter h) (starter k) = let u = heads 230 p (λ z. omega arith) (λ z. omega arith) in (u.0, u.1, (heads 202 q (λ z. omega arith) (λ z. omega arith)).1)
      of (under h) (under k) = let u = heads 230 p (λ z. omega arith) (λ z. omega arith) in (u.0, u.1, tails 202 q h k)
      of (over h) (over k) = let u = heads 202 q (λ z. omega arith) (λ z. omega arith) in (u.0, tails 230 p h k, u.1)
      of (starter h) (under k) = clash 0 202 h k (λ z. omega arith) (heads 230 p (λ z. omega arith) (λ z. omega arith)).0
      of (under h) (starter k) = clash 202 0 h k (λ z. omega arith) (heads 230 p (λ z. omega arith) (λ z. omega arith)).0
      of (starter h) (over k) = clash 0 230 h k (λ z. omega arith) (heads 202 q (λ z. omega arith) (λ z. omega arith)).0
      of (over h) (starter k) = clash 230 0 h k (λ z. omega arith) (heads 202 q (λ z. omega arith) (λ z. omega arith)).0
      of (under h) (over k) = absurd (after_over x y _ b k r (sym (drops 230 y b k) ∙ sym p ∙ keeps 230 x a (λ z. omega arith)) h)
      of (over h) (under k) = absurd (after_over y x _ a h o (sym (drops 230 x a h) ∙ p ∙ keeps 230 y b (λ z. omega arith)) k)

-- something is left of a list that is not empty, without the one class or without the other
some_left : {A : Type 0} (y : ℕ) (b : List ℕ) → [] ≡ without 230 (y ∷ b) → [] ≡ without 202 (y ∷ b) → A
some_left {A} y b p q = of (kind y)
  where
    of : Kind y → A
    of (starter h) = empty_not (p ∙ keeps 230 y b (λ z. omega arith))
    of (under h) = empty_not (p ∙ keeps 230 y b (λ z. omega arith))
    of (over h) = empty_not (q ∙ keeps 202 y b (λ z. omega arith))

ordered_same : (a b : List ℕ) → Ordered a → Ordered b → without 230 a ≡ without 230 b → without 202 a ≡ without 202 b → a ≡ b
unfolding without
ordered_same [] [] o r p q = refl
ordered_same [] (y ∷ b) o r p q = some_left y b p q
ordered_same (x ∷ a) [] o r p q = some_left x a (sym p) (sym q)
ordered_same (x ∷ a) (y ∷ b) o r p q =
    let u = heads_same x y a b p q o r in
    let v : a ≡ b = ordered_same a b o.1 r.1 u.1 u.2 in
    λ i. u.0 i ∷ v i

-- the rule
module _ (a b : List ℕ) where
  pub canonical_same : without 230 a ≡ without 230 b → without 202 a ≡ without 202 b → canonical a ≡ canonical b
  canonical_same p q =
      ordered_same (canonical a) (canonical b) (canonical_ordered a) (canonical_ordered b)
      (canonical_without 230 a (inr refl) ∙ p ∙ sym (canonical_without 230 b (inr refl)))
      (canonical_without 202 a (inl refl) ∙ q ∙ sym (canonical_without 202 b (inl refl)))

  pub canonical_back : (k : ℕ) → Mark k → canonical a ≡ canonical b → without k a ≡ without k b
  canonical_back k m e = sym (canonical_without k a m) ∙ ap (without k) e ∙ canonical_without k b m

  -- as the code tests it: first without the marks above, then without those below
  pub order_first : (t : Bool) → t ≡ same_bytes (without 230 a) (without 230 b) → t ≡ false → false ≡ same_bytes (canonical a) (canonical b)
  order_first t e h = unlike _ _ (λ k. let f : same_bytes (without 230 a) (without 230 b) ≡ true = rw (canonical_back 230 (inr refl) k) (equal_same _) in let z : ◌≡◌ {A = ℕ} 0 1 = cc in omega arith)

  pub order_second : (t u : Bool) → t ≡ same_bytes (without 230 a) (without 230 b) → t ≡ true → u ≡ same_bytes (without 202 a) (without 202 b) → u ≡ same_bytes (canonical a) (canonical b)
  order_second t u e h = of (same_bytes (without 202 a) (without 202 b)) refl
    where
      of : (d : Bool) → same_bytes (without 202 a) (without 202 b) ≡ d → u ≡ d → u ≡ same_bytes (canonical a) (canonical b)
      of true g k = k ∙ sym (rw (canonical_same (same_equal _ _ (sym e ∙ h)) (same_equal _ _ g)) (equal_same _))
      of false g k = k ∙ unlike _ _ (λ z. let f : same_bytes (without 202 a) (without 202 b) ≡ true = rw (canonical_back 202 (inl refl) z) (equal_same _) in let y : ◌≡◌ {A = ℕ} 0 1 = cc in omega arith)
