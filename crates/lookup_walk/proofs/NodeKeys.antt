-- The keys of one node, read one after the other: where they climb, the node is sorted.
use Prim.Native.Nat.{ℕ, zero, suc, ◌+◌, ◌≤◌, ◌<◌}
use mathlib.Core.Path.{◌≡◌, sym, subst⁻¹, ◌∙◌}
use mathlib.Core.List.{List, [], ◌∷◌, ◌++◌}
use mathlib.Core.Logic.{inl, inr}
use native.Mathlib.Decide.{ℕ_discrete}
use native.Mathlib.Omega.{arith}
use Rattle.error.specs.Answer.{Answer, Ok, Err, ◌>>=◌}
use Rattle.error.proofs.Laws.{bound}
use Rattle.node.specs.declared.layout.Node.{Node}
use Rattle.node.specs.declared.layout.Info.{Info}
use Rattle.lookup.specs.Key.{key_at, IsAbove, NotAbove}
use Rattle.lookup.specs.Sorted.{Sorted}
use Rattle.lookup_walk.specs.Walk.{Item, Branches, bare, branch, items, items_of, FirstsOf}
use Rattle.lookup_walk.proofs.Climbs.{Over, Climbs, over_left, over_right, climbs_right, Begins, first_item}

abbrev Key : Type 0
Key = ℕ × ℕ

-- what is above another is not below it
pub above_not : (p q : Key) → IsAbove q p → NotAbove p q
above_not p q (inl h) (inl k) = omega arith
above_not p q (inl h) (inr k) = omega (arith, k.0)
above_not p q (inr h) (inl k) = omega (arith, h.0)
above_not p q (inr h) (inr k) = omega (arith, h.1, k.1)

abbrev pub OverKeys : Key → List Key → Type 0
OverKeys k [] = Unit {0}
OverKeys k (x ∷ xs) = IsAbove x k × OverKeys k xs

abbrev pub ClimbKeys : List Key → Type 0
ClimbKeys [] = Unit {0}
ClimbKeys (x ∷ xs) = OverKeys x xs × ClimbKeys xs

module _ (b : List ℕ) (m : Node) (info : Info) where
  -- n keys from the i-th on
  unfoldable pub keys_from : ℕ → ℕ → Answer (List Key)
  keys_from zero i = Ok []
  keys_from (suc n) i = key_at b m info i >>= λ k. keys_from n (i + 1) >>= λ ks. Ok (k ∷ ks)

  record Split (n i : ℕ) (ks : List Key) : Type 0 where
    first : Key
    rest : List Key
    whole : first ∷ rest ≡ ks
    head : key_at b m info i ≡ Ok first
    tail : keys_from n (i + 1) ≡ Ok rest

  split : (n i : ℕ) (ks : List Key) → keys_from (suc n) i ≡ Ok ks → Split n i ks
  unfolding keys_from
  split n i ks e =
      let x = bound (key_at b m info i) (λ k. keys_from n (i + 1) >>= λ zs. Ok (k ∷ zs)) ks e in
      let y = bound (keys_from n (i + 1)) (λ zs. Ok (x.0 ∷ zs)) ks x.1.1 in
      record { first = x.0; rest = y.0; whole = (let q : ◌≡◌ {A = Answer _} (Ok (x.0 ∷ y.0)) (Ok ks) = y.1.1 in cc); head = x.1.0; tail = y.1.0 }

  reads_at : (n i : ℕ) (ks : List Key) → keys_from n i ≡ Ok ks → (j : ℕ) → i ≤ j → j < i + n → (k : Key) × (key_at b m info j ≡ Ok k)
  reads_at zero i ks e j h l = absurd (omega arith)
  reads_at (suc n) i ks e j h l = of (ℕ_discrete i j) (reads_at n (i + 1))
    where
      s : Split n i ks
      s = split n i ks e

      of : Dec (i ≡ j) → ((ls : List Key) → keys_from n (i + 1) ≡ Ok ls → (j : ℕ) → i + 1 ≤ j → j < i + 1 + n → (k : Key) × (key_at b m info j ≡ Ok k)) → (k : Key) × (key_at b m info j ≡ Ok k)
      of (Dec.yes q) g = (s.first, rw (← q) s.head)
      of (Dec.no q) g = g s.rest s.tail j (omega arith) (omega arith)

  -- a key of those that are all above k
  over_at : (k : Key) (n i : ℕ) (ks : List Key) → keys_from n i ≡ Ok ks → OverKeys k ks → (j : ℕ) (q : Key) → i ≤ j → j < i + n → key_at b m info j ≡ Ok q → IsAbove q k
  over_at k zero i ks e o j q h l p = absurd (omega arith)
  over_at k (suc n) i ks e o j q h l p = of (ℕ_discrete i j) (over_at k n (i + 1))
    where
      s : Split n i ks
      s = split n i ks e

      o' : OverKeys k (s.first ∷ s.rest)
      o' = subst⁻¹ (OverKeys k) s.whole o

      of : Dec (i ≡ j) → ((ls : List Key) → keys_from n (i + 1) ≡ Ok ls → OverKeys k ls → (j : ℕ) (q : Key) → i + 1 ≤ j → j < i + 1 + n → key_at b m info j ≡ Ok q → IsAbove q k) → IsAbove q k
      of (Dec.yes z) g =
          let y : ◌≡◌ {A = Answer _} (Ok s.first) (Ok q) = sym s.head ∙ (rw (← z) at p) in
          let w : s.first ≡ q = cc in
          rw (← w) o'.0
      of (Dec.no z) g = g s.rest s.tail o'.1 j q (omega arith) (omega arith) p

  rises_at : (n i : ℕ) (ks : List Key) → keys_from n i ≡ Ok ks → ClimbKeys ks → (j l : ℕ) (p q : Key) → i ≤ j → j < l → l < i + n → key_at b m info j ≡ Ok p → key_at b m info l ≡ Ok q → IsAbove q p
  rises_at zero i ks e o j l p q h d u x y = absurd (omega arith)
  rises_at (suc n) i ks e o j l p q h d u x y = of (ℕ_discrete i j) (rises_at n (i + 1))
    where
      s : Split n i ks
      s = split n i ks e

      o' : ClimbKeys (s.first ∷ s.rest)
      o' = subst⁻¹ ClimbKeys s.whole o

      of : Dec (i ≡ j) → ((ls : List Key) → keys_from n (i + 1) ≡ Ok ls → ClimbKeys ls → (j l : ℕ) (p q : Key) → i + 1 ≤ j → j < l → l < i + 1 + n → key_at b m info j ≡ Ok p → key_at b m info l ≡ Ok q → IsAbove q p) → IsAbove q p
      of (Dec.yes z) g =
          let v : ◌≡◌ {A = Answer _} (Ok s.first) (Ok p) = sym s.head ∙ (rw (← z) at x) in
          let w : s.first ≡ p = cc in
          rw (← w) (over_at s.first n (i + 1) s.rest s.tail o'.0 l q (omega arith) (omega arith) y)
      of (Dec.no z) g = g s.rest s.tail o'.1 j l p q (omega arith) d (omega arith) x y

  pub sorted_of : (ks : List Key) → keys_from m.nkeys 0 ≡ Ok ks → ClimbKeys ks → Sorted b m info
  sorted_of ks e o = record {
    reads = λ i h. reads_at m.nkeys 0 ks e i (omega arith) (omega arith);
    rises = λ i j p q h l x y. above_not p q (rises_at m.nkeys 0 ks e o i j p q (omega arith) h (omega arith) x y);
  }

-- a leaf's keys, and an index node's
abbrev pub keys_of : List Item → List Key
keys_of [] = []
keys_of (x ∷ xs) = x.key ∷ keys_of xs

abbrev pub branch_keys : Branches → List Key
branch_keys bare = []
branch_keys (branch k t bs) = k ∷ branch_keys bs

pub over_keys : (k : Key) (xs : List Item) → Over k xs → OverKeys k (keys_of xs)
over_keys k [] h = tt
over_keys k (x ∷ xs) h = (h.0, over_keys k xs h.1)

pub climb_keys : (xs : List Item) → Climbs xs → ClimbKeys (keys_of xs)
climb_keys [] h = tt
climb_keys (x ∷ xs) h = (over_keys x.key xs h.0, climb_keys xs h.1)

-- where all entries are above k, so are the keys of the branches
over_branches : (k : Key) (bs : Branches) → FirstsOf bs → Over k (items_of bs) → OverKeys k (branch_keys bs)
over_branches k bare w h = tt
over_branches k (branch l t bs) w h =
    let f : Begins l (items t) = first_item l t w.0 w.1 in
    let o : Over k (f.0 ∷ f.1) = rw f.2 at (over_left k (items t) (items_of bs) h) in
    (rw f.3 at o.0, over_branches k bs w.2 (over_right k (items t) (items_of bs) h))

pub climb_branches : (bs : Branches) → FirstsOf bs → Climbs (items_of bs) → ClimbKeys (branch_keys bs)
climb_branches bare w h = tt
climb_branches (branch k t bs) w h =
    let f : Begins k (items t) = first_item k t w.0 w.1 in
    let c : Climbs ((f.0 ∷ f.1) ++ items_of bs) = rw f.2 at h in
    let o : Over k (items_of bs) = rw f.3 at (over_right f.0.key f.1 (items_of bs) c.0) in
    (over_branches k bs w.2 o, climb_branches bs w.2 (climbs_right (items t) (items_of bs) h))
