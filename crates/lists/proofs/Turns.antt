-- The turns of the three loops over a list.
use Prim.Native.Nat.{ℕ}
use mathlib.Core.Path.{◌≡◌, sym, ap, ◌∙◌}
use mathlib.Core.List.{List}
use Rattle.error.specs.Answer.{Answer, Ok, Err}
use Rattle.error.specs.declared.Refusal.{Refusal}
use Rattle.error.specs.declared.Refusal.TheVariants.{Unsupported}
use Rattle.error.proofs.Laws.{same, other}
use Rattle.lookup.specs.Counted.{after}
use Rattle.btree.specs.Scan.{Run, scan_of}
use Rattle.btree.specs.declared.entries.Search.{Search}
use Rattle.node.specs.declared.place.Place.{Place}
use Rattle.btree.specs.declared.leaf.InLeaf.{InLeaf}
use Rattle.btree.specs.declared.leaf.InLeaf.TheVariants as leaf
use Rattle.cursor.specs.Left.{run_at, Begins}
use Rattle.cursor.specs.declared.steps.Step.{Step}
use Rattle.volume.specs.declared.Volume.{Volume}
use Rattle.inode_record.specs.Inode.{compressed}
use Rattle.inode_record.specs.declared.inode.Inode.{Inode}
use Rattle.volume.specs.Rule.{hashed_keys}
use Rattle.records.specs.Directory.{entry_at}
use Rattle.records.specs.Attribute.{attribute_at}
use Rattle.records.specs.Extent.{extent_at}
use Rattle.records.specs.declared.directory.Entry.{Entry}
use Rattle.records.specs.declared.attribute.Attribute.{Attribute}
use Rattle.records.specs.declared.extent.Extent.{Extent}
use Rattle.lists.specs.Lists.{search_of, list_of, placed, entries_of, attributes_of, extents_of, file_extents}
use Rattle.lists.specs.declared.seen.Seen.{Seen}
use Rattle.lists.specs.declared.seen.Seen.TheVariants.{Over, Passed, Element, Refused}
use Rattle.lists.specs.Seen.{seen_in}
use Rattle.lists.proofs.Reading.{less_at, less_passed, list_no, list_passed}
use Rattle.lists.proofs.Laws.{all, place_start, place_over, place_more, place_here}
use Rattle.std.specs.Prelude.{None, Option, Some}
use Rattle.lookup.specs.declared.counted.Counted.{Counted}

-- an element, by the record that was found
module _ {A : Type 0} (g : Place → Answer A) (y r : InLeaf) (t : r ≡ y) where
  pub show_got : (p : Place) (a : ℕ) (x : A) → r ≡ leaf.At p a → g p ≡ Ok x → Element x a ≡ seen_in g y
  show_got p a x e h = rw (← t, e, h)

  pub show_fault : (p : Place) (a : ℕ) (w : Refusal) → r ≡ leaf.At p a → g p ≡ Err w → Refused w ≡ seen_in g y
  show_fault p a w e h = rw (← t, e, h)

  pub show_passed : r ≡ leaf.Passed → Passed ≡ seen_in g y
  show_passed e = rw (← t, e)

  pub show_end : r ≡ leaf.End → Over ≡ seen_in g y
  show_end e = rw (← t, e)

  pub show_no : (w : Refusal) → r ≡ leaf.No w → Refused w ≡ seen_in g y
  show_no w e = rw (← t, e)

pub entry_search : (b : List ℕ) (v : Volume) (id place : ℕ) (q : Search) (t : Step) (i : ℕ) (z : Counted (Option Entry)) → q ≡ search_of v id 9
    → z ≡ placed place (list_of (entry_at q.keys.hashed q.keys.reader b) (run_at b q t i)) → z ≡ placed place (list_of (entry_at (hashed_keys v) v.reader b) (run_at b (search_of v id 9) t i))
entry_search b v id place q t i z e h = rw e at h

pub entry_whole : (b : List ℕ) (v : Volume) (id place n : ℕ) (q : Search) (t : Step) (r : Counted (Option Entry)) → q ≡ search_of v id 9 → Begins b q t (scan_of b q n)
    → r ≡ placed place (list_of (entry_at (hashed_keys v) v.reader b) (run_at b (search_of v id 9) t t.from)) → r ≡ placed place (entries_of b v id n)
unfolding entries_of
entry_whole b v id place n q t r e h g = rw (rw e at h.run) at g

pub attribute_search : (b : List ℕ) (v : Volume) (id place : ℕ) (q : Search) (t : Step) (i : ℕ) (z : Counted (Option Attribute)) → q ≡ search_of v id 4
    → z ≡ placed place (list_of (attribute_at q.keys.reader b) (run_at b q t i)) → z ≡ placed place (list_of (attribute_at v.reader b) (run_at b (search_of v id 4) t i))
attribute_search b v id place q t i z e h = rw e at h

pub attribute_whole : (b : List ℕ) (v : Volume) (id place n : ℕ) (q : Search) (t : Step) (r : Counted (Option Attribute)) → q ≡ search_of v id 4 → Begins b q t (scan_of b q n)
    → r ≡ placed place (list_of (attribute_at v.reader b) (run_at b (search_of v id 4) t t.from)) → r ≡ placed place (attributes_of b v id n)
unfolding attributes_of
attribute_whole b v id place n q t r e h g = rw (rw e at h.run) at g

pub extent_search : (b : List ℕ) (v : Volume) (id place : ℕ) (q : Search) (t : Step) (i : ℕ) (z : Counted (Option Extent)) → q ≡ search_of v id 8
    → z ≡ placed place (list_of (extent_at q.keys.reader b) (run_at b q t i)) → z ≡ placed place (list_of (extent_at v.reader b) (run_at b (search_of v id 8) t i))
extent_search b v id place q t i z e h = rw e at h

pub extent_whole : (b : List ℕ) (v : Volume) (id place n : ℕ) (q : Search) (t : Step) (r : Counted (Option Extent)) → q ≡ search_of v id 8 → Begins b q t (scan_of b q n)
    → r ≡ placed place (list_of (extent_at v.reader b) (run_at b (search_of v id 8) t t.from)) → r ≡ placed place (extents_of b v id n)
unfolding extents_of
extent_whole b v id place n q t r e h g = rw (rw e at h.run) at g

-- the extents of a file
module _ (b : List ℕ) (v : Volume) (i : Inode) (place s : ℕ) (r : Counted (Option Extent)) where
  pub extents_compressed : compressed i ≡ 1 → r ≡ record { nodes = s; answer = Err Unsupported } → r ≡ file_extents b v i place s
  unfolding file_extents
  extents_compressed h e = same _ _ _ _ _ h (rw e)

  pub extents_stored : (compressed i ≡ 1 → ⊥) → r ≡ placed place (extents_of b v i.ids.private_id s) → r ≡ file_extents b v i place s
  unfolding file_extents
  extents_stored h e = other _ _ _ _ _ h e

pub ruleset stored = (all, extents_compressed, extents_stored)

pub ruleset shows = (all, show_got, show_fault, show_passed, show_end, show_no)

pub ruleset turns = (all, less_at, less_passed, list_no, list_passed, place_start, place_over, place_more, place_here)
