-- The pieces of a line, one after the other.
use Prim.Native.Nat.{ℕ, suc, ◌+◌, ◌-◌, ◌≤◌, ◌<◌}
use mathlib.Core.Path.{◌≡◌, refl, sym, ap, ◌∙◌}
use mathlib.Core.List.{List, [], ◌∷◌, ◌++◌}
use native.Mathlib.Nat.{sub-zero}
use native.Mathlib.Omega.{arith}
use Rattle.error.proofs.Laws.{same, other}
use Rattle.text.specs.Output.{Output, puts}
use Rattle.text.specs.Words.{ascii, digits}
use Rattle.text.proofs.Digits.{digits_append}
use Rattle.text.proofs.Writing.{then}
use Rattle.nx.specs.Slots.{slot_of, slot_count, slots_in, volumes_of}
use Rattle.checkpoints.specs.declared.superblock.Superblock.{Superblock}
use Rattle.container_line.specs.Container.{number_words, container_head}

word_append : (n : ℕ) (x : List ℕ) → 32 ∷ digits n x ≡ (32 ∷ digits n []) ++ x
word_append n x = ap (λ (t : List ℕ). 32 ∷ t) (digits_append n [] x)

numbers_append : (ns y x : List ℕ) → number_words ns (y ++ x) ≡ number_words ns y ++ x
unfolding number_words
numbers_append [] y x = refl
numbers_append (n ∷ ns) y x = rw (numbers_append ns y x, digits_append n (number_words ns y) x)

head_append : (size count xid : ℕ) (x : List ℕ) → container_head size count xid x ≡ container_head size count xid [] ++ x
unfolding container_head
head_append size count xid x =
    let e : digits xid x ≡ digits xid [] ++ x = digits_append xid [] x in
    let f : digits count (32 ∷ digits xid x) ≡ digits count (32 ∷ digits xid []) ++ x = rw e (digits_append count (32 ∷ digits xid []) x) in
    rw f (ap (λ (t : List ℕ). ascii "(container " t) (digits_append size (32 ∷ digits count (32 ∷ digits xid [])) x))

module _ (room : ℕ) (o p z : Output) where
  pub then_head : (size count xid : ℕ) (x : List ℕ) → p ≡ puts room (container_head size count xid []) o → z ≡ puts room x p → z ≡ puts room (container_head size count xid x) o
  then_head size count xid x e h = then room o p z (container_head size count xid []) x _ (head_append size count xid x) e h

  pub then_word : (n : ℕ) (x : List ℕ) → p ≡ puts room (32 ∷ digits n []) o → z ≡ puts room x p → z ≡ puts room (32 ∷ digits n x) o
  then_word n x e h = then room o p z (32 ∷ digits n []) x _ (word_append n x) e h

  pub then_numbers : (ns x : List ℕ) → p ≡ puts room (number_words ns []) o → z ≡ puts room x p → z ≡ puts room (number_words ns x) o
  then_numbers ns x e h = then room o p z (number_words ns []) x _ (numbers_append ns [] x) e h

-- the turns of the loop over the volume slots
module _ (room : ℕ) (image : List ℕ) (sb : Superblock) where
  pub volumes_start : (n : ℕ) (o : Output) → n ≡ slot_count sb → puts room (number_words (slots_in image sb (n - 0) 0) []) o ≡ puts room (number_words (volumes_of image sb) []) o
  volumes_start n o e = rw (sub-zero, e)

  module _ (n i : ℕ) (o whole : Output) (p : puts room (number_words (slots_in image sb (n - i) i) []) o ≡ whole) where
    pub volumes_done : n ≤ i → o ≡ whole
    unfolding slots_in number_words puts
    volumes_done h = let q : n - i ≡ 0 = omega arith in rw q at p

    module _ (h : i < n) (oid : ℕ) (e : oid ≡ slot_of image sb i) where
      pub volumes_zero : oid ≡ 0 → puts room (number_words (slots_in image sb (n - (i + 1)) (i + 1)) []) o ≡ whole
      unfolding slots_in
      volumes_zero z =
          let q : n - i ≡ suc (n - (i + 1)) = omega arith in
          let k : slot_of image sb i ≡ 0 = sym e ∙ z in
          ap (λ (l : List ℕ). puts room (number_words l []) o) (same _ _ _ _ _ k refl) ∙ (rw q at p)

      pub volumes_next : (x : Output) → (oid ≡ 0 → ⊥) → x ≡ puts room (32 ∷ digits oid []) o → puts room (number_words (slots_in image sb (n - (i + 1)) (i + 1)) []) x ≡ whole
      unfolding slots_in number_words
      volumes_next x z w =
          let q : n - i ≡ suc (n - (i + 1)) = omega arith in
          let k : slot_of image sb i ≡ 0 → ⊥ = λ t. z (e ∙ t) in
          then_word room o x _ oid _ w refl
          ∙ (rw e (ap (λ (l : List ℕ). puts room (number_words l []) o) (other _ _ _ _ _ k refl) ∙ (rw q at p)))
