-- How a caller's loop goes through the elements of a list, leaf by leaf. Of the list that is left either k says what is made of it, its faults included
-- (`reading`), or it is read up to its first fault (`readable`). The loop's invariant is "what is made of what is left ≡ whole"; an element x turns k
-- into k' where k (x ∷ xs) ≡ k' xs.
use Prim.Native.Nat.{ℕ, ◌<◌}
use mathlib.Core.Path.{◌≡◌, refl, sym, ap, ◌∙◌}
use mathlib.Core.List.{List, [], ◌∷◌}
use mathlib.Core.Logic.{◌⊎◌, inl, inr, ⊎_elim}
use native.Mathlib.Omega.{arith}
use Rattle.error.specs.Answer.{Answer, Ok, Err}
use Rattle.error.specs.declared.Refusal.{Refusal}
use Rattle.lookup.specs.declared.counted.Counted.{Counted}
use Rattle.lookup.specs.Counted.{after, from, onto}
use Rattle.btree.specs.Scan.{Run, more, end, refused}
use Rattle.btree.specs.declared.entries.Search.{Search}
use Rattle.node.specs.declared.place.Place.{Place}
use Rattle.btree.specs.declared.leaf.InLeaf.{InLeaf}
use Rattle.btree.specs.declared.leaf.InLeaf.TheVariants.{At, Passed, End, No}
use Rattle.cursor.specs.Left.{left, run_at, in_step, Begins}
use Rattle.cursor.specs.declared.steps.Step.{Step}
use Rattle.cursor.proofs.Through.{run_at_lem, run_end, run_no, run_passed, rest, rest_at, rest_passed}
use Rattle.lists.specs.Lists.{list_of}
use Rattle.lists.specs.Inner.{read_then, readable}
use Rattle.lists.specs.declared.seen.Seen.{Seen}
use Rattle.lists.specs.declared.seen.Seen.TheVariants.{Over, Passed, Element, Refused}
use Rattle.lists.specs.Seen.{seen_then, seen_in}

-- what k makes of the list of a run's records
unfoldable pub reading : {A B : Type 0} → (Place → Answer A) → (List A → Answer B) → Run → Counted B
reading g k r = onto (list_of g r) λ xs t. after t (k xs)

module _ {A B : Type 0} (g : Place → Answer A) (k : List A → Answer B) where
  pub list_start : (r : Run) → reading g k r ≡ (onto (list_of g r) λ xs t. after t (k xs))
  unfolding reading
  list_start r = refl

  ends : (s : ℕ) → reading g k (end s) ≡ after s (k [])
  unfolding reading list_of
  ends s = refl

  refuses : (e : Refusal) (s : ℕ) → reading g k (refused e s) ≡ after s (Err e)
  unfolding reading list_of
  refuses e s = refl

  breaks : (p : Place) (s : ℕ) (r : Run) (e : Refusal) → g p ≡ Err e → reading g k (more p s r) ≡ after s (Err e)
  unfolding reading list_of
  breaks p s r e h = rw h

  onward : (k' : List A → Answer B) (p : Place) (s : ℕ) (r : Run) (x : A) → g p ≡ Ok x → ((xs : List A) → k (x ∷ xs) ≡ k' xs) → reading g k (more p s r) ≡ reading g k' r
  unfolding reading list_of
  onward k' p s r x h t = rw h (of (list_of g r).nodes (list_of g r).answer)
    where
      of : (n : ℕ) (a : Answer (List A)) → (onto (onto (after n a) λ xs m. after m (Ok (x ∷ xs))) λ xs m. after m (k xs)) ≡ (onto (after n a) λ xs m. after m (k' xs))
      of n (Ok xs) = rw (t xs)
      of n (Err e) = refl

-- which record an element was read from
module _ {A : Type 0} (g : Place → Answer A) where
  no_other : {B : Type 0} → ◌≡◌ {A = ℕ} 0 1 → B
  no_other z = absurd (omega arith)

  as_over : (r : InLeaf) → seen_in g r ≡ Over → r ≡ End
  as_over (At p a) e = of (g p) e
    where
      of : (z : Answer A) → seen_then z a ≡ Over → At p a ≡ End
      of (Ok x) h = no_other (cc)
      of (Err w) h = no_other (cc)
  as_over Passed e = no_other (cc)
  as_over End e = refl
  as_over (No w) e = no_other (cc)

  as_passed : (r : InLeaf) → seen_in g r ≡ Passed → r ≡ Passed
  as_passed (At p a) e = of (g p) e
    where
      of : (z : Answer A) → seen_then z a ≡ Passed → At p a ≡ Passed
      of (Ok x) h = no_other (cc)
      of (Err w) h = no_other (cc)
  as_passed Passed e = refl
  as_passed End e = no_other (cc)
  as_passed (No w) e = no_other (cc)

  as_element : (r : InLeaf) (y : A) (c : ℕ) → seen_in g r ≡ Element y c → (p : Place) × (r ≡ At p c) × (g p ≡ Ok y)
  as_element (At p a) y c e = of (g p) refl e
    where
      of : (z : Answer A) → g p ≡ z → seen_then z a ≡ Element y c → (o : Place) × (At p a ≡ At o c) × (g o ≡ Ok y)
      of (Ok x) h f = let u : a ≡ c = cc in let v : x ≡ y = cc in (p, ap (At p) u, h ∙ ap Ok v)
      of (Err w) h f = no_other (cc)
  as_element Passed y c e = no_other (cc)
  as_element End y c e = no_other (cc)
  as_element (No w) y c e = no_other (cc)

  as_refusal : (r : InLeaf) (w : Refusal) → seen_in g r ≡ Refused w → (r ≡ No w) ⊎ ((p : Place) × (c : ℕ) × (r ≡ At p c) × (g p ≡ Err w))
  as_refusal (At p a) w e = of (g p) refl e
    where
      of : (z : Answer A) → g p ≡ z → seen_then z a ≡ Refused w → (At p a ≡ No w) ⊎ ((o : Place) × (c : ℕ) × (At p a ≡ At o c) × (g o ≡ Err w))
      of (Ok x) h f = no_other (cc)
      of (Err v) h f = let u : v ≡ w = cc in inr (p, a, refl, h ∙ ap Err u)
  as_refusal Passed w e = no_other (cc)
  as_refusal End w e = no_other (cc)
  as_refusal (No v) w e = let u : v ≡ w = cc in inl (ap No u)

-- the turns of the loop
module _ {A : Type 0} (g : Place → Answer A) (b : List ℕ) (q : Search) (s : Step) (i : ℕ) (x : Seen A) (t : x ≡ seen_in g (in_step b q s.reached i)) where
  -- the measure falls
  pub less_at : (y : A) (a : ℕ) → x ≡ Element y a → rest b q s a < rest b q s i
  less_at y a e = let m = as_element g (in_step b q s.reached i) y a (sym t ∙ e) in rest_at b q s i _ refl m.0 a m.1

  pub less_passed : (n : Step) → x ≡ Passed → Begins b q n (left b q s.path s.level s.nodes) → rest b q n n.from < rest b q s i
  less_passed n e h = rest_passed b q s i _ refl n (as_passed g (in_step b q s.reached i) (sym t ∙ e)) h

  -- a leaf that is passed changes nothing of what is left
  pub run_on : (n : Step) → x ≡ Passed → Begins b q n (left b q s.path s.level s.nodes) → run_at b q n n.from ≡ run_at b q s i
  run_on n e h = h.run ∙ sym (run_passed b q s i _ refl (as_passed g (in_step b q s.reached i) (sym t ∙ e)))

  -- what is left, by what was seen
  pub run_over : x ≡ Over → run_at b q s i ≡ end s.nodes
  run_over e = run_end b q s i _ refl (as_over g (in_step b q s.reached i) (sym t ∙ e))

  pub run_element : (y : A) (a : ℕ) → x ≡ Element y a → (p : Place) × (g p ≡ Ok y) × (run_at b q s i ≡ more p s.nodes (run_at b q s a))
  run_element y a e = let m = as_element g (in_step b q s.reached i) y a (sym t ∙ e) in (m.0, m.2, run_at_lem b q s i _ refl m.0 a m.1)

  pub run_refusal : (w : Refusal) → x ≡ Refused w → (run_at b q s i ≡ refused w s.nodes) ⊎ ((p : Place) × (r : Run) × (g p ≡ Err w) × (run_at b q s i ≡ more p s.nodes r))
  run_refusal w e =
      ⊎_elim
      (λ h. inl (run_no b q s i _ refl w h))
      (λ h. inr (h.0, run_at b q s h.1, h.3, run_at_lem b q s i _ refl h.0 h.1 h.2))
      (as_refusal g (in_step b q s.reached i) w (sym t ∙ e))

  module _ {B : Type 0} (k : List A → Answer B) (whole : Counted B) (inv : reading g k (run_at b q s i) ≡ whole) where
    pub list_over : x ≡ Over → after s.nodes (k []) ≡ whole
    list_over e = sym (ends g k s.nodes) ∙ (ap (reading g k) (sym (run_over e)) ∙ inv)

    pub list_no : (w : Refusal) → x ≡ Refused w → after s.nodes (Err w) ≡ whole
    list_no w e =
        ⊎_elim
        (λ h. sym (refuses g k w s.nodes) ∙ (ap (reading g k) (sym h) ∙ inv))
        (λ h. sym (breaks g k h.0 s.nodes _ w h.2) ∙ (ap (reading g k) (sym h.3) ∙ inv))
        (run_refusal w e)

    pub list_at : (k' : List A → Answer B) (y : A) (a : ℕ) → x ≡ Element y a → ((ys : List A) → k (y ∷ ys) ≡ k' ys) → reading g k' (run_at b q s a) ≡ whole
    list_at k' y a e u =
        let m = run_element y a e in
        sym (onward g k k' m.0 s.nodes (run_at b q s a) y m.1 u) ∙ (ap (reading g k) (sym m.2) ∙ inv)

    pub list_passed : (n : Step) → x ≡ Passed → Begins b q n (left b q s.path s.level s.nodes) → reading g k (run_at b q n n.from) ≡ whole
    list_passed n e h = ap (reading g k) (run_on n e h) ∙ inv

  -- the elements that can be read
  pub readable_over : x ≡ Over → readable g (run_at b q s i) ≡ []
  unfolding readable
  readable_over e = rw (run_over e)

  pub readable_no : (w : Refusal) → x ≡ Refused w → readable g (run_at b q s i) ≡ []
  unfolding readable
  readable_no w e = ⊎_elim (λ h. rw h) (λ h. rw (h.3, h.2)) (run_refusal w e)

  pub readable_at : (y : A) (a : ℕ) → x ≡ Element y a → readable g (run_at b q s i) ≡ y ∷ readable g (run_at b q s a)
  unfolding readable
  readable_at y a e = let m = run_element y a e in rw (m.2, m.1)

  pub readable_passed : (n : Step) → x ≡ Passed → Begins b q n (left b q s.path s.level s.nodes) → readable g (run_at b q n n.from) ≡ readable g (run_at b q s i)
  readable_passed n e h = ap (readable g) (run_on n e h)

-- of a list without a fault, what can be read is the list
pub listed : {A : Type 0} (f : Place → Answer A) (r : Run) (xs : List A) → (list_of f r).answer ≡ Ok xs → readable f r ≡ xs
unfolding readable list_of
listed f (end s) xs h = let q : xs ≡ [] = cc in sym q
listed f (refused e s) xs h = absurd (let z : ◌≡◌ {A = ℕ} 0 1 = cc in omega arith)
listed {A} f (more p s r) xs h = of (f p) (list_of f r).answer h (λ ys k. listed f r ys k)
  where
    of : (a : Answer A) (c : Answer (List A)) → (from s a λ x. onto (after (list_of f r).nodes c) λ ys t. after t (Ok (x ∷ ys))).answer ≡ Ok xs
        → ((ys : List A) → c ≡ Ok ys → readable f r ≡ ys) → read_then a (readable f r) ≡ xs
    of (Ok x) (Ok ys) k ih = let q : xs ≡ x ∷ ys = cc in rw (q, ih ys refl)
    of (Ok x) (Err w) k ih = absurd (let z : ◌≡◌ {A = ℕ} 0 1 = cc in omega arith)
    of (Err w) c k ih = absurd (let z : ◌≡◌ {A = ℕ} 0 1 = cc in omega arith)
