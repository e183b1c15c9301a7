-- How a call goes on from its steps: what it leaves is `answered` of the counted answer so far.
use Prim.Native.Nat.{ℕ}
use mathlib.Core.Path.{◌≡◌, sym, ap, ◌∙◌}
use mathlib.Core.List.{List}
use Rattle.std.specs.Prelude.{Option}
use borrow.Author.Rules.{rules}
use Rattle.error.specs.declared.Refusal.{Refusal}
use Rattle.lookup.specs.declared.counted.Counted.{Counted}
use Rattle.lookup.specs.Counted.{onto}
use Rattle.volume.specs.declared.Volume.{Volume}
use Rattle.inode_record.specs.declared.inode.Inode.{Inode}
use Rattle.records.specs.declared.directory.Entry.{Entry}
use Rattle.records.specs.declared.attribute.Attribute.{Attribute}
use Rattle.records.specs.declared.extent.Extent.{Extent}
use Rattle.calls.specs.Filled.{Filled, filled_at, Answered, answered}
use Rattle.calls.proofs.Filling.{filled_nothing}
use Rattle.error.specs.Answer.{Answer, Err, Ok}
use Rattle.std.specs.Prelude.{None, Some}

module _ (f : Volume → ℕ → Counted (List ℕ)) (b : List ℕ) (r : Counted Volume) (c : Counted Volume) (p : r ≡ c) where
  pub volume_got : (v : Volume) (z : Answered) → r.answer ≡ Ok v → z ≡ answered (f v r.nodes) b → z ≡ answered (onto c f) b
  volume_got v z q h = rw (← p, q) h

  pub volume_refused : (w : Refusal) → r.answer ≡ Err w → record { nodes = r.nodes; result = filled_at (Err w) b } ≡ answered (onto c f) b
  volume_refused w q = rw (← p, q)

module _ (f : Inode → ℕ → Counted (List ℕ)) (b : List ℕ) (r : Counted Inode) (c : Counted Inode) (p : r ≡ c) where
  pub inode_got : (i : Inode) (z : Answered) → r.answer ≡ Ok i → z ≡ answered (f i r.nodes) b → z ≡ answered (onto c f) b
  inode_got i z q h = rw (← p, q) h

  pub inode_refused : (w : Refusal) → r.answer ≡ Err w → record { nodes = r.nodes; result = filled_at (Err w) b } ≡ answered (onto c f) b
  inode_refused w q = rw (← p, q)

-- an element of a list
module _ (f : Option Entry → ℕ → Counted (List ℕ)) (b : List ℕ) (r : Counted (Option Entry)) (c : Counted (Option Entry)) (p : r ≡ c) where
  pub entry_got : (x : Entry) (z : Answered) → r.answer ≡ Ok (Some x) → z ≡ answered (f (Some x) r.nodes) b → z ≡ answered (onto c f) b
  entry_got x z q h = rw (← p, q) h

  pub entry_past : (z : Answered) → r.answer ≡ (Ok None) → z ≡ answered (f None r.nodes) b → z ≡ answered (onto c f) b
  entry_past z q h = rw (← p, q) h

  pub entry_refused : (w : Refusal) → r.answer ≡ Err w → record { nodes = r.nodes; result = filled_at (Err w) b } ≡ answered (onto c f) b
  entry_refused w q = rw (← p, q)

module _ (f : Option Extent → ℕ → Counted (List ℕ)) (b : List ℕ) (r : Counted (Option Extent)) (c : Counted (Option Extent)) (p : r ≡ c) where
  pub extent_got : (x : Extent) (z : Answered) → r.answer ≡ Ok (Some x) → z ≡ answered (f (Some x) r.nodes) b → z ≡ answered (onto c f) b
  extent_got x z q h = rw (← p, q) h

  pub extent_past : (z : Answered) → r.answer ≡ (Ok None) → z ≡ answered (f None r.nodes) b → z ≡ answered (onto c f) b
  extent_past z q h = rw (← p, q) h

  pub extent_refused : (w : Refusal) → r.answer ≡ Err w → record { nodes = r.nodes; result = filled_at (Err w) b } ≡ answered (onto c f) b
  extent_refused w q = rw (← p, q)

module _ (f : Option Attribute → ℕ → Counted (List ℕ)) (b : List ℕ) (r : Counted (Option Attribute)) (c : Counted (Option Attribute)) (p : r ≡ c) where
  pub attribute_got : (x : Attribute) (z : Answered) → r.answer ≡ Ok (Some x) → z ≡ answered (f (Some x) r.nodes) b → z ≡ answered (onto c f) b
  attribute_got x z q h = rw (← p, q) h

  pub attribute_past : (z : Answered) → r.answer ≡ (Ok None) → z ≡ answered (f None r.nodes) b → z ≡ answered (onto c f) b
  attribute_past z q h = rw (← p, q) h

  pub attribute_refused : (w : Refusal) → r.answer ≡ Err w → record { nodes = r.nodes; result = filled_at (Err w) b } ≡ answered (onto c f) b
  attribute_refused w q = rw (← p, q)

-- the count of an answer, as a position
module _ (c : Counted (List ℕ)) (out last : List ℕ) (k : Answer ℕ) (n : ℕ) (p : record { nodes = n; result = record { answer = k; buffer = last } } ≡ answered c out) where
  pub count_got : (m : ℕ) → k ≡ Ok m → record { nodes = n; result = filled_at (Ok m) last } ≡ answered c out
  count_got m q = ap (λ (x : Answer ℕ). record { nodes = n; result = record { answer = x; buffer = last } }) (sym q) ∙ p

  pub count_no : (w : Refusal) → k ≡ Err w → record { nodes = n; result = filled_at (Err w) last } ≡ answered c out
  count_no w q = ap (λ (x : Answer ℕ). record { nodes = n; result = record { answer = x; buffer = last } }) (sym q) ∙ p

-- the nodes beside what is left
pub with_nodes : (n : ℕ) (x y : Filled) → x ≡ y → ◌≡◌ {A = Answered} (record { nodes = n; result = x }) (record { nodes = n; result = y })
with_nodes n x y e = rw e

pub ruleset counts = (rules, count_got, count_no)

pub ruleset onward = (rules, filled_nothing, with_nodes, volume_got, volume_refused, inode_got, inode_refused)

pub ruleset elements = (onward, entry_got, entry_past, entry_refused, attribute_got, attribute_past, attribute_refused, extent_got, extent_past, extent_refused)
