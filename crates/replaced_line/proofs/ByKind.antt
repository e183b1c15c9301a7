-- The line of a name, by what was found, and by its kind.
use Prim.Native.Nat.{ℕ}
use mathlib.Core.Path.{◌≡◌, refl, sym, ap, ◌∙◌}
use mathlib.Core.List.{List, []}
use native.Mathlib.Omega.{arith}
use Rattle.error.specs.Answer.{Answer, Ok, Err, ◌>>=◌, if_eq}
use Rattle.error.specs.declared.Refusal.{Refusal}
use Rattle.error.proofs.Laws.{same, other}
use Rattle.utf8.specs.Text.{Reading}
use Rattle.lookup.specs.declared.counted.Counted.{Counted}
use Rattle.lookup.specs.Counted.{after, onto}
use Rattle.names.specs.declared.Name.{Name}
use Rattle.volume.specs.declared.Volume.{Volume}
use Rattle.inode_record.specs.declared.inode.Inode.{Inode}
use Rattle.links.specs.Link.{link_reading, replaced_of}
use Rattle.calls.specs.Filled.{Filled, filled, filled_at, Answered, answered}
use Rattle.calls.proofs.Steps.{elements, with_nodes}
use Rattle.replaced_line.specs.Line.{replaced_line, name_line, target_on}
use Rattle.std.specs.Prelude.{None, Option, Some}

module _ (f : Option Name) (b : List ℕ) (z : Filled) where
  pub name_none : f ≡ None → z ≡ filled [] b → z ≡ filled (name_line f) b
  name_none e h = rw e h

  pub name_some : (n : Name) → f ≡ Some n → z ≡ filled (replaced_line n.replaced []) b → z ≡ filled (name_line f) b
  name_some n e h = rw e h

module _ (image : List ℕ) (v : Volume) (i : Inode) (s : ℕ) (b : List ℕ) (r : Counted ℕ) (p : r ≡ replaced_of (link_reading image v i s)) where
  counted : r.nodes ≡ (link_reading image v i s).nodes
  counted = ap (λ (c : Counted ℕ). c.nodes) p

  number : (n : Answer ℕ) → r.answer ≡ n → n ≡ ((link_reading image v i s).answer >>= λ x. Ok x.replaced)
  number n q = (sym q) ∙ ap (λ (c : Counted ℕ). c.answer) p

  -- by what the link reads as
  abbrev by : ℕ → Answer Reading → Answered
  by m a = answered (onto (after m a) λ x t. after t (Ok (replaced_line x.replaced []))) b

  pub target_got : (n : ℕ) (z : Filled) → r.answer ≡ Ok n → z ≡ filled (replaced_line n []) b → record { nodes = r.nodes; result = z } ≡ answered (target_on image v i s) b
  unfolding target_on
  target_got n z q h = rw counted (of (link_reading image v i s).nodes (link_reading image v i s).answer (number _ q))
    where
      of : (m : ℕ) (a : Answer Reading) → Ok n ≡ (a >>= λ x. Ok x.replaced) → record { nodes = m; result = z } ≡ by m a
      of m (Ok x) e = let k : n ≡ x.replaced = cc in rw (← k) (with_nodes m z _ h)
      of m (Err w) e = absurd (let k : ◌≡◌ {A = ℕ} 0 1 = cc in omega arith)

  pub target_no : (w : Refusal) → r.answer ≡ Err w → record { nodes = r.nodes; result = filled_at (Err w) b } ≡ answered (target_on image v i s) b
  unfolding target_on
  target_no w q = rw counted (of (link_reading image v i s).nodes (link_reading image v i s).answer (number _ q))
    where
      of : (m : ℕ) (a : Answer Reading) → Err w ≡ (a >>= λ x. Ok x.replaced) → record { nodes = m; result = filled_at (Err w) b } ≡ by m a
      of m (Ok x) e = absurd (let k : ◌≡◌ {A = ℕ} 0 1 = cc in omega arith)
      of m (Err u) e = let k : w ≡ u = cc in rw k

-- by the kind
module _ (kind k : ℕ) (x y : Counted (List ℕ)) (b : List ℕ) (z : Answered) where
  pub kind_is : kind ≡ k → z ≡ answered x b → z ≡ answered (if_eq kind k x y) b
  kind_is e h = let q : x ≡ if_eq kind k x y = same _ _ _ _ _ e refl in rw (← q) h

  pub kind_other : (kind ≡ k → ⊥) → z ≡ answered y b → z ≡ answered (if_eq kind k x y) b
  kind_other e h = let q : y ≡ if_eq kind k x y = other _ _ _ _ _ e refl in rw (← q) h

pub label_line : (n m : ℕ) (b : List ℕ) (z : Filled) → n ≡ m → z ≡ filled (replaced_line n []) b → z ≡ filled (replaced_line m []) b
label_line n m b z e h = rw e at h

pub ruleset kinds = (elements, name_none, name_some, target_got, target_no, kind_is, kind_other, label_line, refl)
