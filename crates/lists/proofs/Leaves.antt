-- An element is read in its leaf's block, where its record lies.
use Prim.Native.Nat.{ℕ, ◌-◌}
use mathlib.Core.Path.{◌≡◌, refl, sym, ap, ◌∙◌}
use mathlib.Core.List.{List}
use Rattle.error.specs.Answer.{Answer}
use Rattle.error.specs.declared.Refusal.{Refusal}
use Rattle.obj.specs.Block.{block_of}
use Rattle.obj.specs.declared.reader.Reader.{Reader}
use Rattle.node.specs.declared.layout.Node.{Node}
use Rattle.btree.specs.Inner.{in_leaf, in_keyed}
use Rattle.btree.specs.declared.entries.Keys.{Keys}
use Rattle.node.specs.declared.place.Place.{Place}
use Rattle.btree.specs.declared.leaf.InLeaf.{InLeaf}
use Rattle.btree.specs.declared.leaf.InLeaf.TheVariants as leaf
use Rattle.btree.proofs.Leaves.{in_block}
use Rattle.cursor.specs.Left.{in_reached}
use Rattle.cursor.specs.declared.steps.Reached.{Reached}
use Rattle.cursor.specs.declared.steps.Reached.TheVariants as reached
use Rattle.records.specs.Directory.{entry_of, entry_at}
use Rattle.records.specs.Attribute.{attribute_of, attribute_at}
use Rattle.records.specs.Extent.{extent_of, extent_at}
use Rattle.records.specs.declared.directory.Entry.{Entry}
use Rattle.records.specs.declared.attribute.Attribute.{Attribute}
use Rattle.records.specs.declared.extent.Extent.{Extent}
use Rattle.lists.specs.declared.seen.Seen.{Seen}
use Rattle.lists.specs.declared.seen.Seen.TheVariants.{Over, Refused}
use Rattle.lists.specs.Seen.{seen_then, seen_in}
use borrow.Author.Rules.{rules}

module _ {A : Type 0} (whole : Place → Answer A) (f : List ℕ → Place → Answer A) (b : List ℕ) (k : Keys) (m : Node) (i : ℕ) (same : (p : Place) → whole p ≡ f (block_of k.reader b p.block) p) where
  read_by : (y : InLeaf) → ((p : Place) (a : ℕ) → y ≡ leaf.At p a → p.block ≡ m.block) → seen_in (f (block_of k.reader b m.block)) y ≡ seen_in whole y
  read_by (leaf.At p a) h = ap (λ (x : Answer A). seen_then x a) (sym (same p ∙ ap (λ (n : ℕ). f (block_of k.reader b n) p) (h p a refl)))
  read_by leaf.Passed h = refl
  read_by leaf.End h = refl
  read_by (leaf.No w) h = refl

  read_leaf : (x : Reached) (s : List ℕ) (z : Seen A) → x ≡ reached.Leaf m → s ≡ block_of k.reader b m.block → z ≡ seen_in (f s) (in_leaf s m k.info k.id k.kind (m.nkeys - i) i) → z ≡ seen_in whole (in_reached b k x i)
  read_leaf x s z e t h = rw e (rw t at h ∙ read_by (in_keyed b k m i) (λ p a g. in_block (block_of k.reader b m.block) m k.info k.id k.kind p (m.nkeys - i) i a g))

module _ (b : List ℕ) (k : Keys) (m : Node) (i : ℕ) (x : Reached) (s : List ℕ) (e : x ≡ reached.Leaf m) (t : s ≡ block_of k.reader b m.block) where
  pub entry_leaf : (z : Seen Entry) → z ≡ seen_in (entry_of k.hashed s) (in_leaf s m k.info k.id k.kind (m.nkeys - i) i) → z ≡ seen_in (entry_at k.hashed k.reader b) (in_reached b k x i)
  unfolding entry_at
  entry_leaf z h = read_leaf (entry_at k.hashed k.reader b) (entry_of k.hashed) b k m i (λ p. refl) x s z e t h

  pub attribute_leaf : (z : Seen Attribute) → z ≡ seen_in (attribute_of s) (in_leaf s m k.info k.id k.kind (m.nkeys - i) i) → z ≡ seen_in (attribute_at k.reader b) (in_reached b k x i)
  unfolding attribute_at
  attribute_leaf z h = read_leaf (attribute_at k.reader b) attribute_of b k m i (λ p. refl) x s z e t h

  pub extent_leaf : (z : Seen Extent) → z ≡ seen_in (extent_of s) (in_leaf s m k.info k.id k.kind (m.nkeys - i) i) → z ≡ seen_in (extent_at k.reader b) (in_reached b k x i)
  unfolding extent_at
  extent_leaf z h = read_leaf (extent_at k.reader b) extent_of b k m i (λ p. refl) x s z e t h

module _ {A : Type 0} (g : Place → Answer A) (b : List ℕ) (k : Keys) (i : ℕ) (x : Reached) where
  pub at_end : x ≡ reached.End → Over ≡ seen_in g (in_reached b k x i)
  at_end e = rw e

  pub at_no : (w : Refusal) → x ≡ reached.No w → Refused w ≡ seen_in g (in_reached b k x i)
  at_no w e = rw e

pub ruleset leaves = (rules, entry_leaf, attribute_leaf, extent_leaf, at_end, at_no)
