-- The entry of an index node that is gone into: the entries before it are skipped, so what is left from an entry on is what is left from that one on.
use Prim.Native.Nat.{ℕ, zero, suc, ◌+◌, ◌-◌, ◌≤◌, ◌<◌}
use mathlib.Core.Path.{◌≡◌, refl, sym, ap, ◌∙◌}
use mathlib.Core.List.{List}
use native.Mathlib.Omega.{arith}
use borrow.Author.Rules.{rules}
use Rattle.error.specs.Answer.{Answer, Ok, Err}
use Rattle.error.specs.declared.Refusal.{Refusal}
use Rattle.error.proofs.Laws.{at_most_lem, above}
use Rattle.node.specs.declared.layout.Node.{Node}
use Rattle.node.specs.declared.layout.Info.{Info}
use Rattle.lookup.specs.Path.{Through, at_once, on, count_along, counted}
use Rattle.btree.specs.Entries.{bytes_of, order_in, order_at, by_order, Act, skip, enter_at, follow_at, turn_at}
use Rattle.btree.specs.Scan.{Run, Tail}
use Rattle.btree.specs.Inner.{act, each, next_then, follow_then, here_then, seek_in, seek_at, follow_in, seek_then}
use Rattle.btree.specs.declared.entries.Search.{Search}
use Rattle.btree.specs.declared.entries.Order.{Order}
use Rattle.btree.specs.declared.entries.Order.TheVariants.{Below, Inside, Above}
use Rattle.btree.specs.declared.seek.Seek.{Seek}
use Rattle.btree.specs.declared.seek.Seek.TheVariants.{Over, Stop, At, No}

module _ (b : List ℕ) (m : Node) (info : Info) (id kind : ℕ) where
  -- an entry that is not above
  module _ (i : ℕ) (whole : Seek) (p : follow_in b m info id kind i ≡ whole) where
    pub follow_last : m.nkeys ≤ i + 1 → At i ≡ whole
    unfolding follow_in
    follow_last h = let n : m.nkeys - (i + 1) ≡ 0 = omega arith in rw n at p

    module _ (lt : i + 1 < m.nkeys) (r : Answer Order) (t : r ≡ order_in b m info id kind (i + 1)) where
      follows : next_then r i (seek_in b m info id kind (m.nkeys - (i + 1)) (i + 1)) ≡ whole
      unfolding follow_in
      follows = let n : m.nkeys - (i + 1) ≡ suc (m.nkeys - (i + 1 + 1)) = omega arith in rw (t, n) (rw n at p)

      module _ (o : Order) (e : r ≡ Ok o) where
        pub follow_inside : o ≡ Inside → At i ≡ whole
        follow_inside g = rw (e, g) at follows

        pub follow_above : o ≡ Above → At i ≡ whole
        follow_above g = rw (e, g) at follows

        pub follow_below : o ≡ Below → follow_in b m info id kind (i + 1) ≡ whole
        unfolding seek_in follow_in
        follow_below g =
            let n : m.nkeys - (i + 1) ≡ suc (m.nkeys - (i + 1 + 1)) = omega arith in
            let d : order_in b m info id kind (i + 1) ≡ Ok Below = sym t ∙ (e ∙ ap Ok g) in
            rw d at (rw n at (rw (e, g) at follows))

      pub follow_no : (w : Refusal) → r ≡ Err w → No w ≡ whole
      follow_no w e = rw e at follows

  module _ (i : ℕ) where
    -- an entry of any order
    pub seek_over : m.nkeys ≤ i → Over ≡ seek_in b m info id kind (m.nkeys - i) i
    unfolding seek_in
    seek_over h = let n : m.nkeys - i ≡ 0 = omega arith in rw n

    module _ (lt : i < m.nkeys) (r : Answer Order) (t : r ≡ order_in b m info id kind i) where
      stands : here_then r (follow_in b m info id kind i) ≡ seek_in b m info id kind (m.nkeys - i) i
      unfolding seek_in follow_in
      stands = let n : m.nkeys - i ≡ suc (m.nkeys - (i + 1)) = omega arith in rw (t, n)

      module _ (o : Order) (e : r ≡ Ok o) where
        pub seek_below : (z : Seek) → o ≡ Below → z ≡ follow_in b m info id kind i → z ≡ seek_in b m info id kind (m.nkeys - i) i
        seek_below z g h = h ∙ (rw (e, g) at stands)

        pub seek_inside : (z : Seek) → o ≡ Inside → z ≡ follow_in b m info id kind i → z ≡ seek_in b m info id kind (m.nkeys - i) i
        seek_inside z g h = h ∙ (rw (e, g) at stands)

        pub seek_stop : o ≡ Above → Stop ≡ seek_in b m info id kind (m.nkeys - i) i
        seek_stop g = rw (e, g) at stands

      pub seek_no : (w : Refusal) → r ≡ Err w → No w ≡ seek_in b m info id kind (m.nkeys - i) i
      seek_no w e = rw e at stands

  -- the entry that is gone into is one of those that are left
  bound_follow : (n i j : ℕ) (a : Answer Order) (k : Seek) → suc n ≡ m.nkeys - i → (k ≡ At j → (i + 1 ≤ j) × (j < m.nkeys)) → follow_then n a i k ≡ At j → (i ≤ j) × (j < m.nkeys)
  bound_follow zero i j a k h e g = let z : i ≡ j = cc in (omega arith, omega arith)
  bound_follow (suc n) i j (Ok Below) k h e g = (omega (arith, e g), omega (arith, e g))
  bound_follow (suc n) i j (Ok Inside) k h e g = let z : i ≡ j = cc in (omega arith, omega arith)
  bound_follow (suc n) i j (Ok Above) k h e g = let z : i ≡ j = cc in (omega arith, omega arith)
  bound_follow (suc n) i j (Err w) k h e g = absurd (let z : ◌≡◌ {A = ℕ} 0 1 = cc in omega arith)

  bound_here : (i j : ℕ) (a : Answer Order) (k : Seek) → (k ≡ At j → (i ≤ j) × (j < m.nkeys)) → here_then a k ≡ At j → (i ≤ j) × (j < m.nkeys)
  bound_here i j (Ok Below) k e g = e g
  bound_here i j (Ok Inside) k e g = e g
  bound_here i j (Ok Above) k e g = absurd (let z : ◌≡◌ {A = ℕ} 0 1 = cc in omega arith)
  bound_here i j (Err w) k e g = absurd (let z : ◌≡◌ {A = ℕ} 0 1 = cc in omega arith)

  seek_bound_by : (n i j : ℕ) → n ≡ m.nkeys - i → seek_in b m info id kind n i ≡ At j → (i ≤ j) × (j < m.nkeys)
  unfolding seek_in
  seek_bound_by zero i j h e = absurd (let z : ◌≡◌ {A = ℕ} 0 1 = cc in omega arith)
  seek_bound_by (suc n) i j h e =
      bound_here i j (order_in b m info id kind i) _ (bound_follow n i j (order_in b m info id kind (i + 1)) _ h (seek_bound_by n (i + 1) j (omega arith))) e

  pub seek_bound : (i j : ℕ) → seek_in b m info id kind (m.nkeys - i) i ≡ At j → (i ≤ j) × (j < m.nkeys)
  seek_bound i j e = seek_bound_by (m.nkeys - i) i j refl e

pub ruleset following = (rules, follow_last, follow_inside, follow_above, follow_below, follow_no)

pub ruleset seeking = (rules, seek_over, seek_below, seek_inside, seek_stop, seek_no)

-- what is left of an index node from an entry on
module _ (f : Node → Tail → Tail) (b : List ℕ) (q : Search) (m : Node) (k : Tail) (s : ℕ) where
  -- of n entries behind the i-th; the next of them stands as a says
  each_follow : (n i : ℕ) (a : Answer Order) → suc n ≡ m.nkeys - i → order_at b q m (i + 1) ≡ a →
      each f b q m n (i + 1) k s ≡ seek_then f b q m (seek_in (bytes_of b q m) m q.keys.info q.keys.id q.keys.kind n (i + 1)) k s →
      act f (counted s (follow_at b q m i)) (each f b q m n (i + 1) k)
      ≡ seek_then f b q m (follow_then n a i (seek_in (bytes_of b q m) m q.keys.info q.keys.id q.keys.kind n (i + 1))) k s
  unfolding follow_at counted count_along act by_order
  each_follow zero i a h t e =
      let j : m.nkeys ≤ i + 1 = omega arith in
      let d : m.nkeys - (i + 1) ≡ 0 = omega arith in
      rw (← at_most_lem _ _ (enter_at b q m i) _ _ j refl, d)
  each_follow (suc n) i a h t e =
      let j : i + 1 < m.nkeys = omega arith in
      let d : m.nkeys - (i + 1) ≡ suc n = omega arith in
      rw (← above _ _ (enter_at b q m i) (on (order_at b q m (i + 1)) λ o. by_order o (at_once (Ok skip)) (enter_at b q m i) (enter_at b q m i)) _ j refl, t) (of d a)
    where
      of : m.nkeys - (i + 1) ≡ suc n → (x : Answer Order) → act f (counted s (on x λ o. by_order o (at_once (Ok skip)) (enter_at b q m i) (enter_at b q m i))) (each f b q m (suc n) (i + 1) k)
          ≡ seek_then f b q m (next_then x i (seek_in (bytes_of b q m) m q.keys.info q.keys.id q.keys.kind (suc n) (i + 1))) k s
      of d (Ok Below) = e
      of d (Ok Inside) = rw d
      of d (Ok Above) = rw d
      of d (Err w) = refl

  each_here : (n i : ℕ) (a : Answer Order) (x : Seek) → order_at b q m i ≡ a → act f (counted s (follow_at b q m i)) (each f b q m n (i + 1) k) ≡ seek_then f b q m x k s →
      act f (counted s (turn_at b q m i)) (each f b q m n (i + 1) k) ≡ seek_then f b q m (here_then a x) k s
  unfolding turn_at counted count_along act by_order
  each_here n i (Ok Below) x t e = rw t e
  each_here n i (Ok Inside) x t e = rw t e
  each_here n i (Ok Above) x t e = rw t
  each_here n i (Err w) x t e = rw t

  each_by : (n i : ℕ) → n ≡ m.nkeys - i → each f b q m n i k s ≡ seek_then f b q m (seek_in (bytes_of b q m) m q.keys.info q.keys.id q.keys.kind n i) k s
  unfolding each seek_in
  each_by zero i h = refl
  each_by (suc n) i h =
      each_here n i (order_at b q m i) _ refl (each_follow n i (order_at b q m (i + 1)) h refl (each_by n (i + 1) (omega arith)))

  pub each_seek : (i : ℕ) → each f b q m (m.nkeys - i) i k s ≡ seek_then f b q m (seek_at b q m i) k s
  each_seek i = each_by (m.nkeys - i) i refl
