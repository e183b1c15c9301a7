-- A lookup's count is the length of its path.
use Prim.Native.Nat.{ℕ, zero, suc, ◌+◌, ◌-◌}
use mathlib.Core.Path.{◌≡◌, refl, sym, ap, subst⁻¹, ◌∙◌}
use mathlib.Core.List.{List, [], ◌∷◌, ◌++◌, append-nil}
use Rattle.std.specs.Prelude.{Option}
use native.Mathlib.Numerals.{sub-one}
use native.Mathlib.Decide.{ℕ_discrete}
use native.Mathlib.Omega.{arith}
use Rattle.error.specs.Answer.{Answer, Ok, Err}
use Rattle.error.proofs.Laws.{same, other}
use Rattle.obj.specs.declared.reader.Reader.{Reader}
use Rattle.node.specs.declared.layout.Node.{Node}
use Rattle.node.specs.declared.layout.Info.{Info}
use Rattle.lookup.specs.declared.descent.Target.{Target}
use Rattle.node.specs.declared.place.Place.{Place}
use Rattle.lookup.specs.Path.{Through, at_once, on, and_then, counted}
use Rattle.lookup.specs.Lookup.{Step, nothing, found, into, step_at, walked, look_node, look_child, look, lookup_le}
use Rattle.lookup.specs.Count.{LeadsTo, Goes, CountsPath, ResolvesBy}
use Rattle.lookup.specs.Map.{mapping_of, target_for, look_in, block_for, block_in, resolve}
use Rattle.lookup.specs.declared.map.Resolve.{Resolve}
use Rattle.lookup.specs.declared.map.Resolve.TheVariants.{Identity, Mapped}
use Rattle.lookup.proofs.Depth.{along_some}

module _ (r : Reader) (b : List ℕ) (info : Info) (t : Target) where
  -- what is gone through below a node of level n, and below a child of it
  abbrev rest : ℕ → Node → List ℕ
  rest n m = (look_node (look_child r b info t n) r b info t m).path

  abbrev under : ℕ → Node → List ℕ
  under n c = (look_child r b info t n c).path

  rest_into : (n : ℕ) (m c : Node) → LeadsTo r b info t m c → rest n m ≡ c.block ∷ under n c
  unfolding look_node
  rest_into n m c e = ap (λ (x : Answer Step). (on x (walked (look_child r b info t n))).path) e

  rest_none : (n : ℕ) (m : Node) → ((c : Node) → LeadsTo r b info t m c → ⊥) → rest n m ≡ []
  unfolding look_node
  rest_none n m h = of (step_at r b info t m) h
    where
      of : (x : Answer Step) → ((c : Node) → x ≡ Ok (into c) → ⊥) → (on x (walked (look_child r b info t n))).path ≡ []
      of (Ok nothing) g = refl
      of (Ok (found y)) g = refl
      of (Ok (into c)) g = absurd (g c refl)
      of (Err e) g = refl

  under_off : (n : ℕ) (c : Node) → (c.level + 1 ≡ n → ⊥) → under n c ≡ []
  unfolding look_child
  under_off zero c h = refl
  under_off (suc n) c h =
      ap (λ (x : Through (Option Place)). x.path) (sym (other _ _ _ _ _ (λ e. h (omega arith)) refl))

  under_on : (n : ℕ) (c : Node) → c.level + 1 ≡ n → under n c ≡ rest (n - 1) c
  unfolding look_child
  under_on zero c h = absurd (omega arith)
  under_on (suc n) c h =
      rw sub-one (ap (λ (x : Through (Option Place)). x.path) (sym (same c.level n (look_node (look_child r b info t n) r b info t c) _ _ (omega arith) refl)))

  -- the path of the definition is one by the rules: a step of it, and all of it
  goes_on_lem : (n : ℕ) (m : Node) → m.level ≡ n → ((c : Node) → c.level + 1 ≡ n → Goes r b info t c (c.block ∷ rest (n - 1) c)) → Goes r b info t m (m.block ∷ rest n m)
  goes_on_lem n m h below = of (step_at r b info t m) refl
    where
      none : ((c : Node) → LeadsTo r b info t m c → ⊥) → Goes r b info t m (m.block ∷ rest n m)
      none g = subst⁻¹ (λ (ps : List ℕ). Goes r b info t m (m.block ∷ ps)) (rest_none n m g) (Goes.stops g)

      some : (c : Node) → LeadsTo r b info t m c → Dec (c.level + 1 ≡ n) → Goes r b info t m (m.block ∷ rest n m)
      some c e (Dec.yes d) =
          subst⁻¹ (λ (ps : List ℕ). Goes r b info t m (m.block ∷ ps)) (rest_into n m c e ∙ ap (◌∷◌ c.block) (under_on n c d))
          (Goes.down e (d ∙ sym h) (below c d))
      some c e (Dec.no d) =
          subst⁻¹ (λ (ps : List ℕ). Goes r b info t m (m.block ∷ ps)) (rest_into n m c e ∙ ap (◌∷◌ c.block) (under_off n c d))
          (Goes.off e (λ x. d (x ∙ h)))

      of : (x : Answer Step) → step_at r b info t m ≡ x → Goes r b info t m (m.block ∷ rest n m)
      of (Ok nothing) e = none (λ c g. let z : ◌≡◌ {A = ℕ} 0 1 = cc in omega arith)
      of (Ok (found y)) e = none (λ c g. let z : ◌≡◌ {A = ℕ} 0 1 = cc in omega arith)
      of (Ok (into c)) e = some c e (ℕ_discrete (c.level + 1) n)
      of (Err w) e = none (λ c g. let z : ◌≡◌ {A = ℕ} 0 1 = cc in omega arith)

  goes_there : (n : ℕ) (m : Node) → m.level ≡ n → Goes r b info t m (m.block ∷ rest n m)
  goes_there zero m h = goes_on_lem zero m h (λ c e. absurd (omega arith))
  goes_there (suc n) m h =
      goes_on_lem (suc n) m h (λ c e. subst⁻¹ (λ (k : ℕ). Goes r b info t c (c.block ∷ rest k c)) (sub-one (suc n)) (goes_there n c (omega arith)))

  -- and the only one
  goes_only : {m : Node} {ps : List ℕ} → Goes r b info t m ps → ps ≡ m.block ∷ rest m.level m
  goes_only {m} (Goes.stops g) = ap (◌∷◌ m.block) (sym (rest_none m.level m g))
  goes_only {m} (Goes.off {c = c} e g) = ap (◌∷◌ m.block) (sym (rest_into m.level m c e ∙ ap (◌∷◌ c.block) (under_off m.level c g)))
  goes_only {m} (Goes.down {c = c} e h g) =
      ap (◌∷◌ m.block)
      (goes_only g
      ∙ (ap (λ (n : ℕ). c.block ∷ rest n c) (omega arith)
      ∙ (ap (◌∷◌ c.block) (sym (under_on m.level c h))
      ∙ sym (rest_into m.level m c e))))

pub counts_path : (r : Reader) (b : List ℕ) (info : Info) (t : Target) (root : Node) → CountsPath r b info t root
unfolding look lookup_le counted
counts_path r b info t root = record {
  there = goes_there r b info t root.level root refl;
  only = λ ps g. goes_only r b info t g;
  count = λ s. along_some s root.block _;
}

-- what is made of an answer goes through no more nodes
pub told_path : {A B : Type 0} (t : Through A) (g : A → Answer B) → (and_then t (λ a. at_once (g a))).path ≡ t.path
unfolding and_then
told_path {A} t g = of t.answer
  where
    of : (a : Answer A) → (t.path ++ (on a (λ x. at_once (g x))).path) ≡ t.path
    of (Ok x) = append-nil t.path
    of (Err e) = append-nil t.path

pub resolves_by : (r : Reader) (b : List ℕ) (x : Resolve) (child : ℕ) → ResolvesBy r b x child
unfolding resolve block_in look_in
resolves_by r b Identity child = refl
resolves_by r b (Mapped m) child = told_path (look_in r b m child) block_for ∙ told_path (look r b m.info (target_for m child) m.root) (mapping_of r b child)
