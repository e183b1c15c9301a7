-- The key of a name and what is hashed of it are one list: its letters in canonical order.
use Prim.Native.Nat.{ℕ}
use mathlib.Core.Path.{◌≡◌, refl, sym, ap, ◌∙◌}
use mathlib.Core.Bool.{Bool, true, false, not}
use borrow.Author.Tests.{not-true, not-false}
use mathlib.Core.List.{List, [], ◌∷◌, ◌++◌, append_assoc}
use lib.Dec.{leb, eqb}
use Rattle.error.specs.Answer.{pick, if_le, if_eq}
use Rattle.utf8.specs.Characters.{characters}
use Rattle.unicode_forms.specs.Data.{class_of, decompose, lower_one, lower}
use Rattle.unicode_forms.specs.Keys.{flat, if_reorderable, place, canonical, fold, key_of, hashed_of, same_keys}
use Rattle.unicode_forms.specs.Stream.{letters_of, letters, without}
use Rattle.utf8.specs.Text.{same_bytes}
use Rattle.unicode_forms.proofs.Closed.{KeepsClass, commute, keeps}
use Rattle.unicode_forms.proofs.Order.{order_first, order_second}

-- ---- characters replaced by some

flat_append : (f : ℕ → List ℕ) (a b : List ℕ) → flat f (a ++ b) ≡ flat f a ++ flat f b
unfolding flat
flat_append f [] b = refl
flat_append f (c ∷ a) b = rw (flat_append f a b) (sym (append_assoc (f c) (flat f a) (flat f b)))

flat_flat : (f g h : ℕ → List ℕ) → ((c : ℕ) → h c ≡ flat f (g c)) → (a : List ℕ) → flat f (flat g a) ≡ flat h a
unfolding flat
flat_flat f g h e [] = refl
flat_flat f g h e (c ∷ a) = rw (flat_append f (g c) (flat g a), flat_flat f g h e a, e c)

flat_one : (f : ℕ → List ℕ) → ((c : ℕ) → f c ≡ c ∷ []) → (a : List ℕ) → flat f a ≡ a
unfolding flat
flat_one f e [] = refl
flat_one f e (c ∷ a) = rw (e c, flat_one f e a)

-- ---- lowering and the order

reorder_map : {A B : Type 0} (f : A → B) (c d : ℕ) (x y : A) → f (if_reorderable c d x y) ≡ if_reorderable c d (f x) (f y)
unfolding if_reorderable if_eq if_le
reorder_map f c d x y = of (eqb (class_of d) 0) (leb (class_of c) (class_of d))
  where
    of : (p q : Bool) → f (pick p y (pick q y x)) ≡ pick p (f y) (pick q (f y) (f x))
    of true q = refl
    of false true = refl
    of false false = refl

reorder_classes : {A : Type 0} (c d c' d' : ℕ) (x y : A) → class_of c' ≡ class_of c → class_of d' ≡ class_of d → if_reorderable c d x y ≡ if_reorderable c' d' x y
unfolding if_reorderable
reorder_classes c d c' d' x y e h = rw (e, h)

keeps_place : (d : ℕ) (xs : List ℕ) → KeepsClass (d ∷ xs) → KeepsClass (place d xs)
unfolding place if_reorderable if_eq if_le
keeps_place d [] k = k
keeps_place d (x ∷ xs) k = of (eqb (class_of x) 0) (leb (class_of d) (class_of x)) (keeps_place d xs (k.0, k.1, k.2.2))
  where
    of : (p q : Bool) → KeepsClass (place d xs) → KeepsClass (pick p (d ∷ x ∷ xs) (pick q (d ∷ x ∷ xs) (x ∷ place d xs)))
    of true q h = k
    of false true h = k
    of false false h = (k.2.0, k.2.1, h)

keeps_canonical : (xs : List ℕ) → KeepsClass xs → KeepsClass (canonical xs)
unfolding canonical
keeps_canonical [] k = tt
keeps_canonical (d ∷ xs) k = keeps_place d (canonical xs) (k.0, k.1, keeps_canonical xs k.2)

lower_first : (d : ℕ) (xs : List ℕ) → lower d ≡ lower_one d ∷ [] → flat lower (d ∷ xs) ≡ lower_one d ∷ flat lower xs
unfolding flat
lower_first d xs e = rw e

lower_place : (d : ℕ) (xs : List ℕ) → KeepsClass (d ∷ xs) → flat lower (place d xs) ≡ place (lower_one d) (flat lower xs)
unfolding place flat
lower_place d [] k = lower_first d [] k.0
lower_place d (x ∷ xs) k =
    reorder_map (flat lower) d x _ _
    ∙ rw (lower_first x (place d xs) k.2.0, lower_first d (x ∷ xs) k.0, lower_first x xs k.2.0, lower_place d xs (k.0, k.1, k.2.2))
    (reorder_classes d x (lower_one d) (lower_one x) _ _ k.1 k.2.1)

lower_canonical : (xs : List ℕ) → KeepsClass xs → flat lower (canonical xs) ≡ canonical (flat lower xs)
unfolding canonical flat
lower_canonical [] k = refl
lower_canonical (d ∷ xs) k =
    lower_place d (canonical xs) (k.0, k.1, keeps_canonical xs k.2)
    ∙ ap (place (lower_one d)) (lower_canonical xs k.2)
    ∙ ap canonical (sym (lower_first d xs k.0))

-- ---- every character

keeps_append : (a b : List ℕ) → KeepsClass a → KeepsClass b → KeepsClass (a ++ b)
keeps_append [] b k l = l
keeps_append (c ∷ a) b k l = (k.0, k.1, keeps_append a b k.2 l)

keeps_all : (cs : List ℕ) → KeepsClass (flat decompose cs)
unfolding flat
keeps_all [] = tt
keeps_all (c ∷ cs) = keeps_append (decompose c) (flat decompose cs) (keeps c) (keeps_all cs)

commute_all : (cs : List ℕ) → flat decompose (flat lower cs) ≡ flat lower (flat decompose cs)
unfolding flat
commute_all [] = refl
commute_all (c ∷ cs) =
    flat_append decompose (lower c) (flat lower cs)
    ∙ rw (commute c, commute_all cs)
    (sym (flat_append lower (decompose c) (flat decompose cs)))

fold_on : (c : ℕ) → fold true c ≡ lower c
unfolding fold
fold_on c = refl

fold_off : (c : ℕ) → fold false c ≡ c ∷ []
unfolding fold
fold_off c = refl

flat_same : (f g : ℕ → List ℕ) → ((c : ℕ) → f c ≡ g c) → (a : List ℕ) → flat f a ≡ flat g a
unfolding flat
flat_same f g e [] = refl
flat_same f g e (c ∷ a) = rw (e c, flat_same f g e a)

module _ (b : List ℕ) where
  cs : List ℕ
  cs = characters b

  folded : (caseless : Bool) → flat (fold caseless) (flat decompose cs) ≡ letters caseless b
  unfolding letters letters_of cs
  folded caseless = flat_flat (fold caseless) decompose (letters_of caseless) (λ c. refl) (characters b)

  -- the key: decomposed, ordered, then lowered
  pub key_letters : (caseless : Bool) → key_of caseless b ≡ canonical (letters caseless b)
  unfolding key_of cs
  key_letters true =
      flat_same (fold true) lower fold_on (canonical (flat decompose cs))
      ∙ lower_canonical (flat decompose cs) (keeps_all cs)
      ∙ ap canonical (sym (flat_same (fold true) lower fold_on (flat decompose cs)) ∙ folded true)
  key_letters false = flat_one (fold false) fold_off _ ∙ ap canonical (sym (flat_one (fold false) fold_off (flat decompose cs)) ∙ folded false)

  -- what is hashed: lowered, then decomposed and ordered
  pub hashed_letters : (caseless : Bool) → hashed_of caseless b ≡ canonical (letters caseless b)
  unfolding hashed_of cs
  hashed_letters true =
      ap canonical (ap (flat decompose) (flat_same (fold true) lower fold_on cs) ∙ commute_all cs ∙ sym (flat_same (fold true) lower fold_on (flat decompose cs)) ∙ folded true)
  hashed_letters false = ap canonical (ap (flat decompose) (flat_one (fold false) fold_off cs) ∙ sym (flat_one (fold false) fold_off (flat decompose cs)) ∙ folded false)

  -- so equal keys have equal hashes
  pub key_hashed : (caseless : Bool) → key_of caseless b ≡ hashed_of caseless b
  key_hashed caseless = key_letters caseless ∙ sym (hashed_letters caseless)

-- two names have the same key exactly where their letters are the same in canonical order
pub keys_letters : (caseless : Bool) (a b : List ℕ) → same_bytes (canonical (letters caseless a)) (canonical (letters caseless b)) ≡ same_keys caseless a b
unfolding same_keys
keys_letters caseless a b = rw (key_letters a caseless, key_letters b caseless)

-- and that where they are the same without the marks above, and without the marks below
module _ (a b : List ℕ) (t : Bool) (e : t ≡ same_bytes (without 230 a) (without 230 b)) where
  pub order_unlike : not t ≡ true → false ≡ same_bytes (canonical a) (canonical b)
  order_unlike h = order_first a b t e (not-true t h)

  pub order_by : (u : Bool) → not t ≡ false → u ≡ same_bytes (without 202 a) (without 202 b) → u ≡ same_bytes (canonical a) (canonical b)
  order_by u h k = order_second a b t u e (not-false t h) k
