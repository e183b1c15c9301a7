-- The rules of the data, for every character that is covered: one test that is computed over all ranges, and what it says of each character.
use Prim.Native.Nat.{zero-le, ℕ, zero, suc, ◌+◌, ◌-◌, ◌≤◌, ◌<◌}
use mathlib.Core.Path.{◌≡◌, refl, sym, ap, subst, ◌∙◌}
use mathlib.Core.Bool.{Bool, true, false, ◌&&◌}
use mathlib.Core.Logic.{◌⊎◌, inl, inr}
use mathlib.Core.List.{List, [], ◌∷◌, append-nil}
use lib.Dec.{T, leb, eqb, eqb→eq}
use borrow.Author.Tests.{leb-true, leb-false, eqb-true, eqb-false}
use native.Mathlib.Omega.{arith}
use Rattle.error.specs.Answer.{if_le, if_eq}
use Rattle.utf8.specs.Text.{Range, if_in, same_bytes}
use Rattle.utf8.proofs.Equal.{same_equal}
use Rattle.error.proofs.Laws.{other, le_cases, eq_cases}
use Rattle.utf8.proofs.Pieces.{in_cases, beyond}
use Rattle.unicode_forms.specs.Data.{ranges, any_in, covered, class_of, in_rows, hangul, decompose, lower_one, lower}
use Rattle.unicode_forms.specs.Keys.{flat}
use Rattle.unicode_forms.specs.Closed.{Settled, ClosedRanges}

-- ---- a test of every character that is covered, and what it says of each

-- n characters from c on
unfoldable pub onward : (ℕ → Bool) → ℕ → ℕ → Bool
onward p zero c = true
onward p (suc n) c = p c && onward p n (suc c)

on_all : (ℕ → Bool) → List Range → Bool
on_all p [] = true
on_all p (r ∷ rs) = onward p (suc r.high - r.low) r.low && on_all p rs

pub both : (a b : Bool) → T (a && b) → T a × T b
both true b t = (tt, t)
both false b t = absurd t

pub so : (b : Bool) → T b → b ≡ true
so true t = refl
so false t = absurd t

module _ (p : ℕ → Bool) where
  pub of_onward : (n c k : ℕ) → T (onward p n c) → c ≤ k → k < c + n → T (p k)
  unfolding onward
  of_onward zero c k t h l = absurd (omega arith)
  of_onward (suc n) c k t h l =
      let t2 = both (p c) (onward p n (suc c)) t in
      at (eqb c k) refl t2.0 (λ h. of_onward n (suc c) k t2.1 h (omega arith))
    where
      at : (d : Bool) → eqb c k ≡ d → T (p c) → (suc c ≤ k → T (p k)) → T (p k)
      at true e t f = subst (λ (z : ℕ). T (p z)) (eqb-true c k e) t
      at false e t f = let ne : c ≡ k → ⊥ = eqb-false c k e in f (omega arith)

  of_all : (rs : List Range) (c : ℕ) → T (on_all p rs) → any_in rs c ≡ true → T (p c)
  unfolding on_all any_in
  of_all [] c t = λ e. absurd (let z : ◌≡◌ {A = ℕ} 0 1 = cc in omega arith)
  of_all (r ∷ rs) c t =
      let t2 = both (onward p (suc r.high - r.low) r.low) (on_all p rs) t in
      in_cases (λ z. z ≡ true → T (p c))
      (λ h k e. of_onward (suc r.high - r.low) r.low c t2.0 h (omega arith))
      (λ e. of_all rs c t2.1 e)

-- ---- the rules

settles : (ℕ → List ℕ) → List ℕ → Bool
settles f [] = true
settles f (d ∷ ds) = covered d && (same_bytes (f d) (d ∷ []) && settles f ds)

-- each is lowered to one character, of its own class
keeps_class : List ℕ → Bool
keeps_class [] = true
keeps_class (d ∷ ds) = same_bytes (lower d) (lower_one d ∷ []) && (eqb (class_of (lower_one d)) (class_of d) && keeps_class ds)

-- "what decomposing gives lies in them and decomposes no further, and .. what lowering gives lies in them and lowers no further"
closes : ℕ → Bool
closes c = settles decompose (decompose c) && settles lower (lower c)

-- computed, every character of every range
all_close : T (on_all closes ranges)
unfolding on_all onward closes settles same_bytes any_in decompose hangul in_rows lower lower_one if_in if_le if_eq
all_close = tt

-- lowering and decomposing may change places; each character of a decomposition is lowered to one, of its own class
below : ℕ → Bool
below c = same_bytes (flat decompose (lower c)) (flat lower (decompose c)) && keeps_class (decompose c)

-- computed, U+0000 to U+017F
all_below : T (onward below 0x180 0)
unfolding onward below keeps_class same_bytes flat class_of decompose in_rows lower lower_one if_in if_le if_eq
all_below = tt

settled : (f : ℕ → List ℕ) (ds : List ℕ) → T (settles f ds) → Settled f ds
unfolding settles
settled f [] t = tt
settled f (d ∷ ds) t =
    let u = both (covered d) (same_bytes (f d) (d ∷ []) && settles f ds) t in
    let w = both (same_bytes (f d) (d ∷ [])) (settles f ds) u.1 in
    (so (covered d) u.0, same_equal (f d) (d ∷ []) (so _ w.0), settled f ds w.1)

-- each is lowered to one character, of its own class
abbrev pub KeepsClass : List ℕ → Type 0
KeepsClass [] = Unit
KeepsClass (d ∷ ds) = (lower d ≡ lower_one d ∷ []) × (class_of (lower_one d) ≡ class_of d) × KeepsClass ds

keeps_class_lem : (ds : List ℕ) → T (keeps_class ds) → KeepsClass ds
unfolding keeps_class
keeps_class_lem [] t = tt
keeps_class_lem (d ∷ ds) t =
    let u = both (same_bytes (lower d) (lower_one d ∷ [])) _ t in
    let w = both (eqb (class_of (lower_one d)) (class_of d)) (keeps_class ds) u.1 in
    (same_equal (lower d) (lower_one d ∷ []) (so _ u.0), eqb→eq _ _ w.0, keeps_class_lem ds w.1)

pub closed : ClosedRanges
unfolding closes
closed c h =
    let u = both (settles decompose (decompose c)) (settles lower (lower c)) (of_all closes ranges c all_close h) in
    record { decomposed = settled decompose (decompose c) u.0; lowered = settled lower (lower c) u.1 }

-- ---- above U+017F nothing is lowered

module _ (c : ℕ) (h : 0x180 ≤ c) where
  one_high : lower_one c ≡ c
  unfolding lower_one
  one_high = sym (
      beyond _ _ _ _ _ _ (omega arith) (omega arith) (beyond _ _ _ _ _ _ (omega arith) (omega arith) (beyond _ _ _ _ _ _ (omega arith) (omega arith)
      (beyond _ _ _ _ _ _ (omega arith) (omega arith) (beyond _ _ _ _ _ _ (omega arith) (omega arith) (beyond _ _ _ _ _ _ (omega arith) (omega arith)
      (other _ _ _ _ _ (λ e. omega arith) (beyond _ _ _ _ _ _ (omega arith) (omega arith) refl))))))))

  pub lower_high : lower c ≡ c ∷ []
  unfolding lower
  lower_high = sym (other _ _ _ _ _ (λ e. omega arith) (ap (◌∷ []) (sym one_high)))

abbrev pub High : List ℕ → Type 0
High [] = Unit
High (c ∷ cs) = (0x180 ≤ c) × High cs

pub hangul_high : (s : ℕ) → High (hangul s)
unfolding hangul
hangul_high s = (omega arith, (omega arith, eq_cases High (λ e. tt) (λ e. (omega arith, tt))))

pub decompose_high : (c : ℕ) → 0x180 ≤ c → High (decompose c)
unfolding decompose
decompose_high c h = in_cases High (λ k l. hangul_high (c - 0xAC00)) (le_cases High (λ l. absurd (omega arith)) (λ l. (h, tt)))

pub flat_high : (cs : List ℕ) → High cs → flat lower cs ≡ cs
unfolding flat
flat_high [] h = refl
flat_high (c ∷ cs) h = rw (lower_high c h.0, flat_high cs h.1)

keeps_high : (cs : List ℕ) → High cs → KeepsClass cs
keeps_high [] h = tt
keeps_high (c ∷ cs) h = (lower_high c h.0 ∙ ap (◌∷ []) (sym (one_high c h.0)), ap class_of (one_high c h.0), keeps_high cs h.1)

-- ---- for every character

flat_single : (c : ℕ) → flat decompose (c ∷ []) ≡ decompose c
unfolding flat
flat_single c = append-nil (decompose c)

low_or_high : (c : ℕ) → (T (below c)) ⊎ (0x180 ≤ c)
low_or_high c = of (leb 0x180 c) refl
  where
    of : (d : Bool) → leb 0x180 c ≡ d → (T (below c)) ⊎ (0x180 ≤ c)
    of true e = inr (leb-true 0x180 c e)
    of false e = inl (of_onward below 0x180 0 c all_below zero-le (leb-false 0x180 c e))

module _ (c : ℕ) where
  pub commute : flat decompose (lower c) ≡ flat lower (decompose c)
  unfolding below
  commute = of (low_or_high c)
    where
      of : (T (below c)) ⊎ (0x180 ≤ c) → flat decompose (lower c) ≡ flat lower (decompose c)
      of (inl t) = same_equal _ _ (so _ (both (same_bytes (flat decompose (lower c)) (flat lower (decompose c))) (keeps_class (decompose c)) t).0)
      of (inr h) = rw (lower_high c h, flat_single c) (sym (flat_high (decompose c) (decompose_high c h)))

  pub keeps : KeepsClass (decompose c)
  unfolding below
  keeps = of (low_or_high c)
    where
      of : (T (below c)) ⊎ (0x180 ≤ c) → KeepsClass (decompose c)
      of (inl t) = keeps_class_lem (decompose c) (both (same_bytes (flat decompose (lower c)) (flat lower (decompose c))) (keeps_class (decompose c)) t).1
      of (inr h) = keeps_high (decompose c) (decompose_high c h)
