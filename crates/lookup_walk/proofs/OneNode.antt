-- One node: the walk over what lies below it, from where the keys above the target begin.
use Prim.Native.Nat.{ℕ, zero, suc, ◌+◌, ◌-◌, ◌≤◌, ◌<◌}
use mathlib.Core.Path.{◌≡◌, sym, ap, subst, subst⁻¹, ◌∙◌}
use Rattle.std.specs.Prelude.{Option, None, Some}
use mathlib.Core.List.{List, [], ◌∷◌, ◌++◌}
use native.Mathlib.Decide.{dec_le}
use native.Mathlib.Omega.{arith}
use Rattle.error.specs.Answer.{Answer, Ok, Err, ◌>>=◌}
use Rattle.error.proofs.Laws.{bound}
use Rattle.byte_fields.specs.Part.{part_of}
use Rattle.obj.specs.Block.{block_of}
use Rattle.obj.specs.declared.reader.Reader.{Reader}
use Rattle.node.specs.Entry.{key_value_at}
use Rattle.node.specs.Place.{place_of, place_at}
use Rattle.node.specs.declared.layout.Node.{Node}
use Rattle.node.specs.declared.layout.Info.{Info}
use Rattle.lookup.specs.Lookup.{found, hit_step}
use Rattle.lookup.specs.Key.{key_in, key_at, target_key, IsAbove, NotAbove}
use Rattle.lookup.specs.Sorted.{Parts}
use Rattle.lookup.specs.declared.descent.Target.{Target}
use Rattle.node.specs.declared.place.Place.{Place}
use Rattle.lookup_walk.specs.Walk.{Item, Tree, Branches, bare, branch, items, items_of, Firsts, FirstsOf, item_at, items_from, child_node, branches_from, last_in}
use Rattle.lookup_walk.proofs.Climbs.{Over, Climbs, over_up, climbs_left, climbs_right, last_append, last_over, last_taken, last_fresh, Begins, first_item}
use Rattle.lookup_walk.proofs.NodeKeys.{keys_from, keys_of, branch_keys}

module _ (r : Reader) (b : List ℕ) (info : Info) (m : Node) where
  abbrev bytes : List ℕ
  bytes = block_of r b m.block

  -- what an entry of a leaf that was read says
  item_parts : (i : ℕ) (x : Item) → item_at r b info m i ≡ Ok x → (key_at bytes m info i ≡ Ok x.key) × (hit_step r b m info i ≡ Ok (found x.hit))
  unfolding item_at key_at hit_step place_at
  item_parts i x e =
      let p = bound (key_value_at bytes m info i) (λ y. key_in (part_of bytes y.key) >>= λ k. Ok (record { key = k; hit = place_of m.block y })) x e in
      let q = bound (key_in (part_of bytes p.0.key)) (λ k. Ok (record { key = k; hit = place_of m.block p.0 })) x p.1.1 in
      let w : ◌≡◌ {A = Answer _} (Ok (record { key = q.0; hit = place_of m.block p.0 })) (Ok x) = q.1.1 in
      let z : record { key = q.0; hit = place_of m.block p.0 } ≡ x = cc in
      (rw p.1.0 (q.1.0 ∙ ap (λ (y : Item). Ok y.key) z), rw p.1.0 (ap (λ (y : Item). Ok (found y.hit)) z))

  record Leaf (n i : ℕ) (xs : List Item) : Type 0 where
    first : Item
    rest : List Item
    whole : first ∷ rest ≡ xs
    key : key_at bytes m info i ≡ Ok first.key
    hit : hit_step r b m info i ≡ Ok (found first.hit)
    tail : items_from r b info m n (i + 1) ≡ Ok rest

  leaf_split : (n i : ℕ) (xs : List Item) → items_from r b info m (suc n) i ≡ Ok xs → Leaf n i xs
  unfolding items_from
  leaf_split n i xs e =
      let x = bound (item_at r b info m i) (λ k. items_from r b info m n (i + 1) >>= λ zs. Ok (k ∷ zs)) xs e in
      let y = bound (items_from r b info m n (i + 1)) (λ zs. Ok (x.0 ∷ zs)) xs x.1.1 in
      let z = item_parts i x.0 x.1.0 in
      record { first = x.0; rest = y.0; whole = (let q : ◌≡◌ {A = Answer _} (Ok (x.0 ∷ y.0)) (Ok xs) = y.1.1 in cc); key = z.0; hit = z.1; tail = y.1.0 }

  pub leaf_keys : (n i : ℕ) (xs : List Item) → items_from r b info m n i ≡ Ok xs → keys_from bytes m info n i ≡ Ok (keys_of xs)
  unfolding items_from keys_from
  leaf_keys zero i xs e = let q : [] ≡ xs = cc in rw (← q)
  leaf_keys (suc n) i xs e =
      let s : Leaf n i xs = leaf_split n i xs e in
      subst (λ (l : List Item). keys_from bytes m info (suc n) i ≡ Ok (keys_of l)) s.whole (rw (s.key, leaf_keys n (i + 1) s.rest s.tail))

  module _ (t : Target) (n : ℕ) (parts : Parts bytes m info t n) where
    -- from the n-th on every entry is above the target
    leaf_over : (c i : ℕ) (xs : List Item) → i + c ≡ m.nkeys → items_from r b info m c i ≡ Ok xs → n ≤ i → Over (target_key t) xs
    unfolding items_from
    leaf_over zero i xs d e h = let q : [] ≡ xs = cc in rw (← q) tt
    leaf_over (suc c) i xs d e h =
        let s : Leaf c i xs = leaf_split c i xs e in
        subst (Over (target_key t)) s.whole
        (parts.rest i s.first.key h (omega arith) s.key, leaf_over c (i + 1) s.rest (omega arith) s.tail (omega arith))

    -- before it the walk keeps the last
    pub leaf_last : (c i : ℕ) (xs : List Item) (o : Option Place) → i + c ≡ m.nkeys → items_from r b info m c i ≡ Ok xs → i < n →
        (h : Place) × (hit_step r b m info (n - 1) ≡ Ok (found h)) × (last_in t o xs ≡ Some h)
    leaf_last zero i xs o d e h = absurd (omega (arith, parts.within))
    leaf_last (suc c) i xs o d e h = of (dec_le n (i + 1)) (leaf_last c (i + 1) s.rest (Some s.first.hit) (omega arith) s.tail)
      where
        s : Leaf c i xs
        s = leaf_split c i xs e

        now : last_in t o xs ≡ last_in t (Some s.first.hit) s.rest
        now = ap (last_in t o) (sym s.whole) ∙ last_taken t o s.first s.rest (parts.before i s.first.key h s.key)

        of : Dec (n ≤ i + 1) → (i + 1 < n → (h : Place) × (hit_step r b m info (n - 1) ≡ Ok (found h)) × (last_in t (Some s.first.hit) s.rest ≡ Some h)) →
            (h : Place) × (hit_step r b m info (n - 1) ≡ Ok (found h)) × (last_in t o xs ≡ Some h)
        of (Dec.yes k) g =
            let q : n - 1 ≡ i = omega arith in
            (s.first.hit, rw q s.hit, now ∙ last_over t (Some s.first.hit) s.rest (leaf_over c (i + 1) s.rest (omega arith) s.tail k))
        of (Dec.no k) g =
            let x = g (omega arith) in
            (x.0, x.1, now ∙ x.2)

    pub leaf_none : (xs : List Item) → items_from r b info m m.nkeys 0 ≡ Ok xs → n ≡ 0 → last_in t None xs ≡ None
    leaf_none xs e z = last_over t None xs (leaf_over m.nkeys 0 xs (omega arith) e (omega arith))

  -- an index node, with f at each child
  module _ (f : Node → Answer Tree) where
    record Fork (n i : ℕ) (bs : Branches) : Type 0 where
      key : ℕ × ℕ
      node : Node
      tree : Tree
      rest : Branches
      whole : branch key tree rest ≡ bs
      reads : key_at bytes m info i ≡ Ok key
      child : child_node r b info m i ≡ Ok node
      below : f node ≡ Ok tree
      tail : branches_from r b info f m n (i + 1) ≡ Ok rest

    fork : (n i : ℕ) (bs : Branches) → branches_from r b info f m (suc n) i ≡ Ok bs → Fork n i bs
    unfolding branches_from
    fork n i bs e =
        let x = bound (key_at bytes m info i) (λ k. child_node r b info m i >>= λ c. f c >>= λ t. branches_from r b info f m n (i + 1) >>= λ zs. Ok (branch k t zs)) bs e in
        let y = bound (child_node r b info m i) (λ c. f c >>= λ t. branches_from r b info f m n (i + 1) >>= λ zs. Ok (branch x.0 t zs)) bs x.1.1 in
        let z = bound (f y.0) (λ t. branches_from r b info f m n (i + 1) >>= λ zs. Ok (branch x.0 t zs)) bs y.1.1 in
        let w = bound (branches_from r b info f m n (i + 1)) (λ zs. Ok (branch x.0 z.0 zs)) bs z.1.1 in
        record {
          key = x.0;
          node = y.0;
          tree = z.0;
          rest = w.0;
          whole = (let q : ◌≡◌ {A = Answer _} (Ok (branch x.0 z.0 w.0)) (Ok bs) = w.1.1 in cc);
          reads = x.1.0;
          child = y.1.0;
          below = z.1.0;
          tail = w.1.0;
        }

    pub fork_keys : (n i : ℕ) (bs : Branches) → branches_from r b info f m n i ≡ Ok bs → keys_from bytes m info n i ≡ Ok (branch_keys bs)
    unfolding branches_from keys_from
    fork_keys zero i bs e = let q : bare ≡ bs = cc in rw (← q)
    fork_keys (suc n) i bs e =
        let s : Fork n i bs = fork n i bs e in
        subst (λ (l : Branches). keys_from bytes m info (suc n) i ≡ Ok (branch_keys l)) s.whole (rw (s.reads, fork_keys n (i + 1) s.rest s.tail))

    module _ (t : Target) (n : ℕ) (parts : Parts bytes m info t n) where
      -- from the n-th on everything below is above the target
      fork_over : (c i : ℕ) (bs : Branches) → i + c ≡ m.nkeys → branches_from r b info f m c i ≡ Ok bs → FirstsOf bs → Climbs (items_of bs) → n ≤ i → Over (target_key t) (items_of bs)
      unfolding branches_from
      fork_over zero i bs d e w k h = let q : bare ≡ bs = cc in rw (← q) tt
      fork_over (suc c) i bs d e w k h =
          let s : Fork c i bs = fork c i bs e in
          let w' : FirstsOf (branch s.key s.tree s.rest) = subst⁻¹ FirstsOf s.whole w in
          let k' : Climbs (items s.tree ++ items_of s.rest) = subst⁻¹ (λ (l : Branches). Climbs (items_of l)) s.whole k in
          let g : Begins s.key (items s.tree) = first_item s.key s.tree w'.0 w'.1 in
          let a : IsAbove g.0.key (target_key t) = subst⁻¹ (λ (x : ℕ × ℕ). IsAbove x (target_key t)) g.3 (parts.rest i s.key h (omega arith) s.reads) in
          let j : Climbs ((g.0 ∷ g.1) ++ items_of s.rest) = subst (λ (l : List Item). Climbs (l ++ items_of s.rest)) g.2 k' in
          subst (λ (l : Branches). Over (target_key t) (items_of l)) s.whole
          (subst⁻¹ (λ (l : List Item). Over (target_key t) (l ++ items_of s.rest)) g.2
          (a, over_up (target_key t) g.0.key (g.1 ++ items_of s.rest) a j.0))

      pub record Last (o : Option Place) (bs : Branches) : Type 0 where
        pub node : Node
        pub tree : Tree
        pub child : child_node r b info m (n - 1) ≡ Ok node
        pub below : f node ≡ Ok tree
        pub firsts : Firsts tree
        pub climbs : Climbs (items tree)
        pub walk : last_in t o (items_of bs) ≡ last_in t None (items tree)

      -- before it the walk is left with what the last child's own walk keeps
      pub fork_last : (c i : ℕ) (bs : Branches) (o : Option Place) → i + c ≡ m.nkeys → branches_from r b info f m c i ≡ Ok bs → FirstsOf bs → Climbs (items_of bs) → i < n → Last o bs
      fork_last zero i bs o d e w k h = absurd (omega (arith, parts.within))
      fork_last (suc c) i bs o d e w k h = of (dec_le n (i + 1)) (fork_last c (i + 1) s.rest (last_in t o (items s.tree)) (omega arith) s.tail w'.2 (climbs_right (items s.tree) (items_of s.rest) k'))
        where
          s : Fork c i bs
          s = fork c i bs e

          w' : FirstsOf (branch s.key s.tree s.rest)
          w' = subst⁻¹ FirstsOf s.whole w

          k' : Climbs (items s.tree ++ items_of s.rest)
          k' = subst⁻¹ (λ (l : Branches). Climbs (items_of l)) s.whole k

          now : last_in t o (items_of bs) ≡ last_in t (last_in t o (items s.tree)) (items_of s.rest)
          now = ap (λ (l : Branches). last_in t o (items_of l)) (sym s.whole) ∙ last_append t o (items s.tree) (items_of s.rest)

          g : Begins s.key (items s.tree)
          g = first_item s.key s.tree w'.0 w'.1

          low : NotAbove g.0.key (target_key t)
          low = subst⁻¹ (λ (x : ℕ × ℕ). NotAbove x (target_key t)) g.3 (parts.before i s.key h s.reads)

          fresh : last_in t o (items s.tree) ≡ last_in t None (items s.tree)
          fresh = subst⁻¹ (λ (l : List Item). last_in t o l ≡ last_in t None l) g.2 (last_fresh t o None g.0 g.1 low)

          of : Dec (n ≤ i + 1) → (i + 1 < n → Last (last_in t o (items s.tree)) s.rest) → Last o bs
          of (Dec.yes z) l =
              let q : n - 1 ≡ i = omega arith in
              record {
                node = s.node;
                tree = s.tree;
                child = rw q s.child;
                below = s.below;
                firsts = w'.1;
                climbs = climbs_left (items s.tree) (items_of s.rest) k';
                walk = now ∙ (last_over t (last_in t o (items s.tree)) (items_of s.rest) (fork_over c (i + 1) s.rest (omega arith) s.tail w'.2 (climbs_right (items s.tree) (items_of s.rest) k') z) ∙ fresh);
              }
          of (Dec.no z) l =
              let x = l (omega arith) in
              record { node = x.node; tree = x.tree; child = x.child; below = x.below; firsts = x.firsts; climbs = x.climbs; walk = now ∙ x.walk }

      pub fork_none : (bs : Branches) → branches_from r b info f m m.nkeys 0 ≡ Ok bs → FirstsOf bs → Climbs (items_of bs) → n ≡ 0 → last_in t None (items_of bs) ≡ None
      fork_none bs e w k z = last_over t None (items_of bs) (fork_over m.nkeys 0 bs (omega arith) e w k (omega arith))
