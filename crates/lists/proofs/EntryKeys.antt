-- Every entry of a directory that is read stands under a key of its volume's own form. Document 02, request 03.
use Prim.Native.Nat.{ℕ, zero, suc, ◌/◌, ◌%◌}
use mathlib.Core.Path.{◌≡◌, refl, ap, ◌∙◌}
use mathlib.Core.Bool.{Bool, true, false, ◌||◌}
use mathlib.Core.Logic.{◌⊎◌, inl, inr}
use mathlib.Core.List.{List, [], ◌∷◌}
use Rattle.std.specs.Prelude.{Some}
use native.Mathlib.Omega.{arith}
use borrow.Author.Tests.{eq-eqb, ne_eqb}
use lib.Dec.{eqb}
use Rattle.error.specs.Answer.{Answer, Ok, Err}
use Rattle.error.proofs.Laws.{got_is, bound}
use Rattle.byte_fields.specs.Number.{number_at}
use Rattle.byte_fields.specs.Part.{part_of}
use Rattle.obj.specs.Block.{block_of}
use Rattle.obj.specs.declared.reader.Reader.{Reader}
use Rattle.lookup.specs.Counted.{after, from}
use Rattle.btree.specs.Scan.{Run, more, end, refused, scan_of}
use Rattle.node.specs.Place.{key_span, key_of}
use Rattle.node.specs.declared.place.Place.{Place}
use Rattle.volume.specs.Rule.{rule_of, hashed_keys}
use Rattle.volume.specs.declared.Volume.{Volume}
use Rattle.records.specs.Directory.{name_in, entry_value, entry_of, entry_at}
use Rattle.records.specs.declared.directory.Entry.{Entry}
use Rattle.records.proofs.Keys.{HashedKey, PlainKey, hashed_means, plain_means}
use Rattle.lists.specs.Lists.{search_of, list_of, entries_of, element_at}

-- "hashed keys where names are case-insensitive or normalization-insensitive, plain keys elsewhere": APFS_INCOMPAT_CASE_INSENSITIVE 0x1 and
-- APFS_INCOMPAT_NORMALIZATION_INSENSITIVE 0x8 of the volume's incompatible features
pub record OwnForm (image : List ℕ) (v : Volume) (e : Entry) : Type 0 where
  pub hashed : (v.sb.incompat % 2 ≡ 1) ⊎ (v.sb.incompat / 8 % 2 ≡ 1) → HashedKey (key_of v.reader image e.place) e.name
  pub plain : (v.sb.incompat % 2 ≡ 0) → (v.sb.incompat / 8 % 2 ≡ 0) → PlainKey (key_of v.reader image e.place) e.name

-- a list that was read: its first element, and the rest
read_first : {A : Type 0} (f : Place → Answer A) (p : Place) (s : ℕ) (r : Run) (xs : List A) → (list_of f (more p s r)).answer ≡ Ok xs
    → (y : A) × (ys : List A) × (f p ≡ Ok y) × ((list_of f r).answer ≡ Ok ys) × (y ∷ ys ≡ xs)
unfolding list_of
read_first {A} f p s r xs e = of (f p) (list_of f r).answer refl refl e
  where
    of : (a : Answer A) (b : Answer (List A)) → f p ≡ a → (list_of f r).answer ≡ b → (from s a λ y. from (list_of f r).nodes b λ ys. after (list_of f r).nodes (Ok (y ∷ ys))).answer ≡ Ok xs
        → (y : A) × (ys : List A) × (f p ≡ Ok y) × ((list_of f r).answer ≡ Ok ys) × (y ∷ ys ≡ xs)
    of (Ok y) (Ok ys) t u g = (y, ys, t, u, got_is _ xs g)
    of (Ok y) (Err w) t u g = absurd (let z : ◌≡◌ {A = ℕ} 0 1 = cc in omega arith)
    of (Err w) b t u g = absurd (let z : ◌≡◌ {A = ℕ} 0 1 = cc in omega arith)

nothing_at : {A : Type 0} (k : ℕ) (x : A) → element_at k [] ≡ Some x → ⊥
unfolding element_at
nothing_at k x h = let z : ◌≡◌ {A = ℕ} 0 1 = cc in omega arith

-- an element of a list was read from a record
element_read : {A : Type 0} (f : Place → Answer A) (r : Run) (xs : List A) → (list_of f r).answer ≡ Ok xs → (k : ℕ) (x : A) → element_at k xs ≡ Some x → (p : Place) × (f p ≡ Ok x)
unfolding list_of element_at
element_read f (end s) xs e k x h = absurd (nothing_at k x (rw (← got_is [] xs e) at h))
element_read f (refused w s) xs e k x h = absurd (let z : ◌≡◌ {A = ℕ} 0 1 = cc in omega arith)
element_read f (more p s r) xs e zero x h =
    let a = read_first f p s r xs e in
    let g : element_at zero (a.0 ∷ a.1) ≡ Some x = rw (← a.4) at h in
    let q : a.0 ≡ x = cc in
    (p, a.2 ∙ ap Ok q)
element_read f (more p s r) xs e (suc k) x h =
    let a = read_first f p s r xs e in
    let g : element_at (suc k) (a.0 ∷ a.1) ≡ Some x = rw (← a.4) at h in
    element_read f r a.1 a.3 k x g

-- an entry's name is that of its key
entry_name_lem : (hashed : Bool) (r : Reader) (image : List ℕ) (p : Place) (e : Entry) → entry_at hashed r image p ≡ Ok e → name_in hashed (key_of r image e.place) ≡ Ok e.name
unfolding entry_at entry_of entry_value key_of
entry_name_lem hashed r image p e h =
    let a = bound (name_in hashed (part_of (block_of r image p.block) (key_span p))) _ e h in
    let b = bound (number_at 8 _ 0) _ e a.1.1 in
    let c = bound (number_at 8 _ 8) _ e b.1.1 in
    let d = bound (number_at 2 _ 16) _ e c.1.1 in
    let q = got_is _ e d.1.1 in
    rw (← q) a.1.0

module _ (image : List ℕ) (v : Volume) where
  own_form : (e : Entry) → name_in (hashed_keys v) (key_of v.reader image e.place) ≡ Ok e.name → OwnForm image v e
  unfolding hashed_keys rule_of name_in
  own_form e h = record {
    hashed = λ b. (hashed_means _ _).0 (rw (set b) at h);
    plain = λ a c. (plain_means _ _).0 (rw (ne_eqb (v.sb.incompat % 2) 1 (λ z. omega arith), ne_eqb (v.sb.incompat / 8 % 2) 1 (λ z. omega arith)) at h);
  }
    where
      or_true : (a : Bool) → (a || true) ≡ true
      or_true true = refl
      or_true false = refl

      set : (v.sb.incompat % 2 ≡ 1) ⊎ (v.sb.incompat / 8 % 2 ≡ 1) → (eqb (v.sb.incompat % 2) 1 || eqb (v.sb.incompat / 8 % 2) 1) ≡ true
      set (inl a) = rw (eq-eqb (v.sb.incompat % 2) 1 a)
      set (inr c) = rw (eq-eqb (v.sb.incompat / 8 % 2) 1 c) (or_true (eqb (v.sb.incompat % 2) 1))

  pub entries_formed : (id s : ℕ) (es : List Entry) → (entries_of image v id s).answer ≡ Ok es → (k : ℕ) (e : Entry) → element_at k es ≡ Some e → OwnForm image v e
  unfolding entries_of
  entries_formed id s es h k e g =
      let r = element_read (entry_at (hashed_keys v) v.reader image) (scan_of image (search_of v id 9) s) es h k e g in
      own_form e (entry_name_lem (hashed_keys v) v.reader image r.0 e r.1)
