-- The quick lookup answers as the slow one. Document 02, request 14.
use Prim.Native.Nat.{ℕ, zero, suc, ◌-◌}
use mathlib.Core.Path.{◌≡◌, refl, sym, ap, subst, subst⁻¹, ◌∙◌}
use Rattle.std.specs.Prelude.{Option, None}
use mathlib.Core.List.{List}
use native.Mathlib.Decide.{ℕ_discrete}
use native.Mathlib.Omega.{arith}
use Rattle.error.specs.Answer.{Answer, Ok, Err, ◌>>=◌, if_eq}
use Rattle.error.specs.declared.Refusal.TheVariants.{Corrupt}
use Rattle.error.proofs.Laws.{bound, same, other}
use Rattle.obj.specs.Block.{block_of}
use Rattle.obj.specs.declared.reader.Reader.{Reader}
use Rattle.node.specs.Node.{leaf_bit}
use Rattle.node.specs.Entry.{child_at}
use Rattle.node.specs.declared.layout.Node.{Node}
use Rattle.node.specs.declared.layout.Info.{Info}
use Rattle.lookup.specs.Path.{Through, at_once, on, and_then, counted}
use Rattle.lookup.specs.Read.{node_at}
use Rattle.lookup.specs.Lookup.{Step, nothing, found, into, upper_of, hit_step, child_step, step_at, walked, look_node, look_child, look, lookup_le}
use Rattle.lookup.specs.Map.{mapping_of, target_for, look_in, map_lookup, block_for, block_in, resolve, resolve_at}
use Rattle.lookup.specs.Sorted.{Sorted, Parts}
use Rattle.lookup.specs.declared.descent.Target.{Target}
use Rattle.node.specs.declared.place.Place.{Place}
use Rattle.lookup.specs.declared.map.Map.{Map}
use Rattle.lookup.specs.declared.map.MapValue.{MapValue}
use Rattle.lookup.specs.declared.map.Resolve.TheVariants.{Mapped}
use Rattle.lookup.proofs.Theorems.{sorted_parts}
use Rattle.lookup_walk.specs.Walk.{Item, Tree, leaf, index, Branches, items, items_of, Firsts, items_from, child_node, branches_from, node_tree, child_tree, tree_at, WellFormed, last_in, walk_le, map_slow}
use Rattle.lookup_walk.proofs.Climbs.{Climbs, ascends_climbs}
use Rattle.lookup_walk.proofs.NodeKeys.{sorted_of, climb_keys, climb_branches, keys_of, branch_keys}
use Rattle.lookup_walk.proofs.OneNode.{leaf_keys, leaf_last, leaf_none, fork_keys, Last, fork_last, fork_none}

module _ (r : Reader) (b : List ℕ) (info : Info) (t : Target) where
  -- what the lookup answers from a tree
  abbrev Right : Through (Option Place) → Tree → Type 0
  Right c tree = c.answer ≡ Ok (last_in t None (items tree))

  module _ (m : Node) (f : Node → Through (Option Place)) (g : Node → Answer Tree) where
    -- the answer, by the number of entries that are taken as not above the target
    answered : (n : ℕ) → upper_of (block_of r b m.block) m info t ≡ Ok n → (st : Step) →
        if_eq n 0 (Ok nothing) (if_eq (leaf_bit m.flags) 1 (hit_step r b m info (n - 1)) (child_step r b m info (n - 1))) ≡ Ok st → look_node f r b info t m ≡ walked f st
    unfolding look_node step_at
    answered n u st e = rw (u, e)

    leaf_right : leaf_bit m.flags ≡ 1 → (xs : List Item) → items_from r b info m m.nkeys 0 ≡ Ok xs → Climbs xs → Right (look_node f r b info t m) (leaf xs)
    leaf_right z xs e k = of (sorted_parts bytes m info t sorted).0 (sorted_parts bytes m info t sorted).1 (sorted_parts bytes m info t sorted).2 (ℕ_discrete _ 0)
      where
        bytes : List ℕ
        bytes = block_of r b m.block

        sorted : Sorted bytes m info
        sorted = sorted_of bytes m info (keys_of xs) (leaf_keys r b info m m.nkeys 0 xs e) (climb_keys xs k)

        of : (n : ℕ) → upper_of bytes m info t ≡ Ok n → Parts bytes m info t n → Dec (n ≡ 0) → (look_node f r b info t m).answer ≡ Ok (last_in t None xs)
        of n u p (Dec.yes q) =
            ap (λ (c : Through (Option Place)). c.answer) (answered n u nothing (sym (same _ _ _ _ _ q refl))) ∙ ap Ok (sym (leaf_none r b info m t n p xs e q))
        of n u p (Dec.no q) =
            let l = leaf_last r b info m t n p m.nkeys 0 xs None (omega arith) e (omega arith) in
            ap (λ (c : Through (Option Place)). c.answer) (answered n u (found l.0) (sym (other _ _ _ _ _ q (same _ _ _ _ _ z (sym l.1))))) ∙ ap Ok (sym l.2)

    child_step_lem : (i : ℕ) (c : Node) → child_node r b info m i ≡ Ok c → child_step r b m info i ≡ Ok (into c)
    unfolding child_node child_step
    child_step_lem i c e =
        let x = bound (child_at (block_of r b m.block) m info i) (λ p. node_at r b p) c e in
        rw (x.1.0, x.1.1)

    fork_right : (leaf_bit m.flags ≡ 1 → ⊥) → (bs : Branches) → branches_from r b info g m m.nkeys 0 ≡ Ok bs → Firsts (index bs) → Climbs (items_of bs) →
        ((c : Node) (tree : Tree) → g c ≡ Ok tree → Firsts tree → Climbs (items tree) → Right (f c) tree) → Right (look_node f r b info t m) (index bs)
    fork_right z bs e w k h = of (sorted_parts bytes m info t sorted).0 (sorted_parts bytes m info t sorted).1 (sorted_parts bytes m info t sorted).2 (ℕ_discrete _ 0)
      where
        bytes : List ℕ
        bytes = block_of r b m.block

        sorted : Sorted bytes m info
        sorted = sorted_of bytes m info (branch_keys bs) (fork_keys r b info m g m.nkeys 0 bs e) (climb_branches bs w k)

        of : (n : ℕ) → upper_of bytes m info t ≡ Ok n → Parts bytes m info t n → Dec (n ≡ 0) → (look_node f r b info t m).answer ≡ Ok (last_in t None (items_of bs))
        of n u p (Dec.yes q) =
            ap (λ (c : Through (Option Place)). c.answer) (answered n u nothing (sym (same _ _ _ _ _ q refl))) ∙ ap Ok (sym (fork_none r b info m g t n p bs e w k q))
        of n u p (Dec.no q) =
            let l : Last r b info m g t n p None bs = fork_last r b info m g t n p m.nkeys 0 bs None (omega arith) e w k (omega arith) in
            ap (λ (c : Through (Option Place)). c.answer) (answered n u (into l.node) (sym (other _ _ _ _ _ q (other _ _ _ _ _ z (sym (child_step_lem (n - 1) l.node l.child))))))
            ∙ (h l.node l.tree l.below l.firsts l.climbs ∙ ap Ok (sym l.walk))

    node_right : (tree : Tree) → node_tree r b info g m ≡ Ok tree → Firsts tree → Climbs (items tree) →
        ((c : Node) (tree : Tree) → g c ≡ Ok tree → Firsts tree → Climbs (items tree) → Right (f c) tree) → Right (look_node f r b info t m) tree
    unfolding node_tree
    node_right tree e w k h = of (ℕ_discrete (leaf_bit m.flags) 1)
      where
        of : Dec (leaf_bit m.flags ≡ 1) → Right (look_node f r b info t m) tree
        of (Dec.yes z) =
            let x = bound (items_from r b info m m.nkeys 0) (λ xs. Ok (leaf xs)) tree (same _ _ _ _ _ z refl ∙ e) in
            let q : leaf x.0 ≡ tree = (let y : ◌≡◌ {A = Answer _} (Ok (leaf x.0)) (Ok tree) = x.1.1 in cc) in
            subst (Right (look_node f r b info t m)) q (leaf_right z x.0 x.1.0 (subst⁻¹ (λ (y : Tree). Climbs (items y)) q k))
        of (Dec.no z) =
            let x = bound (branches_from r b info g m m.nkeys 0) (λ bs. Ok (index bs)) tree (other _ _ _ _ _ z refl ∙ e) in
            let q : index x.0 ≡ tree = (let y : ◌≡◌ {A = Answer _} (Ok (index x.0)) (Ok tree) = x.1.1 in cc) in
            subst (Right (look_node f r b info t m)) q (fork_right z x.0 x.1.0 (subst⁻¹ Firsts q w) (subst⁻¹ (λ (y : Tree). Climbs (items y)) q k) h)

  -- below a node of level n
  child_right : (n : ℕ) (c : Node) (tree : Tree) → child_tree r b info n c ≡ Ok tree → Firsts tree → Climbs (items tree) → Right (look_child r b info t n c) tree
  unfolding child_tree look_child
  child_right zero c tree e w k = absurd (let z : ◌≡◌ {A = ℕ} 0 1 = cc in omega arith)
  child_right (suc n) c tree e w k = of (ℕ_discrete c.level n) (λ d. child_right n d)
    where
      of : Dec (c.level ≡ n) → ((d : Node) (x : Tree) → child_tree r b info n d ≡ Ok x → Firsts x → Climbs (items x) → Right (look_child r b info t n d) x) →
          Right (if_eq c.level n (look_node (look_child r b info t n) r b info t c) (at_once (Err Corrupt))) tree
      of (Dec.yes z) h =
          subst (λ (x : Through (Option Place)). Right x tree) (same _ _ _ _ _ z refl)
          (node_right c (look_child r b info t n) (child_tree r b info n) tree (same _ _ _ _ _ z refl ∙ e) w k h)
      of (Dec.no z) h = absurd (let x : ◌≡◌ {A = Answer _} (Err Corrupt) (Ok tree) = other _ _ _ _ _ z refl ∙ e in let y : ◌≡◌ {A = ℕ} 0 1 = cc in omega arith)

module _ (r : Reader) (b : List ℕ) (info : Info) (root : Node) (w : WellFormed r b info root) where
  -- the answer is that of the walk over all entries, leaf after leaf
  look_is_slow : (t : Target) → (look r b info t root).answer ≡ walk_le r b info t root
  unfolding look walk_le tree_at
  look_is_slow t =
      node_right r b info t root (look_child r b info t root.level) (child_tree r b info root.level) w.tree w.reads w.firsts (ascends_climbs (items w.tree) w.rising)
      (λ c. child_right r b info t root.level c)
      ∙ rw w.reads

  pub quick_is_slow : (t : Target) (s : ℕ) → (lookup_le r b info t root s).answer ≡ walk_le r b info t root
  unfolding lookup_le counted
  quick_is_slow t s = look_is_slow t

  -- and is no refusal
  pub never_refused : (t : Target) (s : ℕ) → (o : Option Place) × ((lookup_le r b info t root s).answer ≡ Ok o)
  unfolding walk_le
  never_refused t s = (last_in t None (items w.tree), quick_is_slow t s ∙ rw w.reads)

-- what comes of an answer behind a path
said : {A B : Type 0} (f : A → Answer B) (c : Through A) → (and_then c (λ x. at_once (f x))).answer ≡ (c.answer >>= f)
unfolding and_then
said f c = of c.answer
  where
    of : (a : Answer _) → (on a (λ x. at_once (f x))).answer ≡ (a >>= f)
    of (Ok x) = refl
    of (Err e) = refl

-- the same of what an object map says of an object, and of the block that it leads to
module _ (r : Reader) (b : List ℕ) (m : Map) (w : WellFormed r b m.info m.root) where
  looked : (oid : ℕ) → (look_in r b m oid).answer ≡ map_slow r b m oid
  unfolding look_in
  looked oid =
      said (mapping_of r b oid) (look r b m.info (target_for m oid) m.root)
      ∙ ap (λ (a : Answer (Option Place)). a >>= mapping_of r b oid) (look_is_slow r b m.info m.root w (target_for m oid))

  pub map_is_slow : (oid s : ℕ) → (map_lookup r b m oid s).answer ≡ map_slow r b m oid
  unfolding map_lookup counted
  map_is_slow oid s = looked oid

  pub block_is_slow : (oid s : ℕ) → (resolve_at r b (Mapped m) oid s).answer ≡ (map_slow r b m oid >>= block_for)
  unfolding resolve_at resolve block_in counted
  block_is_slow oid s = said block_for (look_in r b m oid) ∙ ap (λ (a : Answer (Option MapValue)). a >>= block_for) (looked oid)
