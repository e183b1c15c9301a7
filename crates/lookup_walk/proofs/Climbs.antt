-- Entries that ascend strictly, and the walk over them.
use Prim.Native.Nat.{ℕ}
use mathlib.Core.Path.{◌≡◌, refl, sym, ap, ◌∙◌}
use mathlib.Core.Bool.{true, false}
use Rattle.std.specs.Prelude.{Option, Some}
use mathlib.Core.List.{List, [], ◌∷◌, ◌++◌}
use mathlib.Core.Logic.{inl, inr}
use native.Mathlib.Omega.{arith}
use Rattle.error.specs.Answer.{pick}
use Rattle.error.proofs.Laws.{got_is}
use Rattle.lookup.specs.Key.{target_key, IsAbove, NotAbove, above?, is_yes}
use Rattle.lookup.proofs.Keys.{says_above, says_not}
use Rattle.node.specs.declared.place.Place.{Place}
use Rattle.lookup.specs.declared.descent.Target.{Target}
use Rattle.lookup_walk.specs.Walk.{Item, Tree, leaf, index, Branches, bare, branch, items, items_of, Rises, Ascends, FirstItem, FirstBranch, FirstIs, Firsts, FirstsOf, last_in}

pub above_trans : (p q r : ℕ × ℕ) → IsAbove p q → IsAbove q r → IsAbove p r
above_trans p q r (inl h) (inl k) = inl (omega arith)
above_trans p q r (inl h) (inr k) = inl (omega (arith, k.0))
above_trans p q r (inr h) (inl k) = inl (omega (arith, h.0))
above_trans p q r (inr h) (inr k) = inr (k.0 ∙ h.0, omega (arith, h.1, k.1))

-- every key of a list is above k
abbrev pub Over : ℕ × ℕ → List Item → Type 0
Over k [] = Unit {0}
Over k (x ∷ xs) = IsAbove x.key k × Over k xs

-- and every key above all before it
abbrev pub Climbs : List Item → Type 0
Climbs [] = Unit {0}
Climbs (x ∷ xs) = Over x.key xs × Climbs xs

pub over_up : (k l : ℕ × ℕ) (xs : List Item) → IsAbove l k → Over l xs → Over k xs
over_up k l [] h o = tt
over_up k l (x ∷ xs) h o = (above_trans x.key l k o.0 h, over_up k l xs h o.1)

rises_over : (k : ℕ × ℕ) (xs : List Item) → Rises k xs → Over k xs
rises_over k [] h = tt
rises_over k (x ∷ xs) h = (h.0, over_up k x.key xs h.0 (rises_over x.key xs h.1))

rises_climbs : (k : ℕ × ℕ) (xs : List Item) → Rises k xs → Climbs xs
rises_climbs k [] h = tt
rises_climbs k (x ∷ xs) h = (rises_over x.key xs h.1, rises_climbs x.key xs h.1)

pub ascends_climbs : (xs : List Item) → Ascends xs → Climbs xs
ascends_climbs [] h = tt
ascends_climbs (x ∷ xs) h = (rises_over x.key xs h, rises_climbs x.key xs h)

pub over_left : (k : ℕ × ℕ) (xs ys : List Item) → Over k (xs ++ ys) → Over k xs
over_left k [] ys h = tt
over_left k (x ∷ xs) ys h = (h.0, over_left k xs ys h.1)

pub over_right : (k : ℕ × ℕ) (xs ys : List Item) → Over k (xs ++ ys) → Over k ys
over_right k [] ys h = h
over_right k (x ∷ xs) ys h = over_right k xs ys h.1

pub climbs_left : (xs ys : List Item) → Climbs (xs ++ ys) → Climbs xs
climbs_left [] ys h = tt
climbs_left (x ∷ xs) ys h = (over_left x.key xs ys h.0, climbs_left xs ys h.1)

pub climbs_right : (xs ys : List Item) → Climbs (xs ++ ys) → Climbs ys
climbs_right [] ys h = h
climbs_right (x ∷ xs) ys h = climbs_right xs ys h.1

-- the walk
module _ (t : Target) where
  key_above_lem : (k : ℕ × ℕ) → IsAbove k (target_key t) → is_yes (above? k (target_key t)) ≡ true
  key_above_lem k h = sym (got_is _ _ (says_above k (target_key t) h))

  key_not : (k : ℕ × ℕ) → NotAbove k (target_key t) → is_yes (above? k (target_key t)) ≡ false
  key_not k h = sym (got_is _ _ (says_not k (target_key t) h))

  pub last_append : (o : Option Place) (xs ys : List Item) → last_in t o (xs ++ ys) ≡ last_in t (last_in t o xs) ys
  unfolding last_in
  last_append o [] ys = refl
  last_append o (x ∷ xs) ys = last_append (pick (is_yes (above? x.key (target_key t))) o (Some x.hit)) xs ys

  -- entries above the target change nothing
  pub last_over : (o : Option Place) (xs : List Item) → Over (target_key t) xs → last_in t o xs ≡ o
  unfolding last_in
  last_over o [] h = refl
  last_over o (x ∷ xs) h = rw (key_above_lem x.key h.0) (last_over o xs h.1)

  -- one that is not above it takes the place of what was kept
  pub last_taken : (o : Option Place) (x : Item) (xs : List Item) → NotAbove x.key (target_key t) → last_in t o (x ∷ xs) ≡ last_in t (Some x.hit) xs
  unfolding last_in
  last_taken o x xs h = rw (key_not x.key h)

  pub last_fresh : (o p : Option Place) (x : Item) (xs : List Item) → NotAbove x.key (target_key t) → last_in t o (x ∷ xs) ≡ last_in t p (x ∷ xs)
  last_fresh o p x xs h = last_taken o x xs h ∙ sym (last_taken p x xs h)

-- the first entry of a tree whose first key is k
abbrev pub Begins : ℕ × ℕ → List Item → Type 0
Begins k l = (x : Item) × (xs : List Item) × (l ≡ x ∷ xs) × (x.key ≡ k)

begins_list : (k : ℕ × ℕ) (l : List Item) → FirstItem k l → Begins k l
begins_list k [] h = absurd h
begins_list k (x ∷ xs) h = (x, xs, refl, h)

begins_append : (k m : ℕ × ℕ) (l ys : List Item) → m ≡ k → Begins m l → Begins k (l ++ ys)
begins_append k m l ys h f = (f.0, f.1 ++ ys, ap (λ (z : List Item). z ++ ys) f.2, f.3 ∙ h)

mutual
  pub first_item : (k : ℕ × ℕ) (t : Tree) → FirstIs k t → Firsts t → Begins k (items t)
  first_item k (leaf xs) h w = begins_list k xs h
  first_item k (index bs) h w = first_branch k bs h w

  pub first_branch : (k : ℕ × ℕ) (bs : Branches) → FirstBranch k bs → FirstsOf bs → Begins k (items_of bs)
  first_branch k bare h w = absurd h
  first_branch k (branch l t bs) h w = begins_append k l (items t) (items_of bs) h (first_item l t w.0 w.1)
