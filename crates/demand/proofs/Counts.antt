-- No answer depends on how many nodes were gone through before: the count is carried along, and nothing looks at it.
use Prim.Native.Nat.{ℕ}
use mathlib.Core.Path.{◌≡◌, refl, sym, ap, ◌∙◌}
use mathlib.Core.Bool.{Bool, true, false}
use mathlib.Core.List.{List, ◌∷◌}
use lib.Dec.{eqb}
use Rattle.error.specs.Answer.{Answer, Ok, Err, ◌>>=◌, pick, if_eq}
use Rattle.lookup.specs.declared.counted.Counted.{Counted}
use Rattle.lookup.specs.Counted.{after, from, onto}
use Rattle.btree.specs.Scan.{Part, through, gives, passed, ended, failed, tree_part, Run, more, end, refused, counted_part, scan_of, nth}
use Rattle.btree.specs.declared.entries.Search.{Search}
use Rattle.node.specs.declared.place.Place.{Place}
use Rattle.volume.specs.declared.Volume.{Volume}
use Rattle.volume.specs.Rule.{hashed_keys}
use Rattle.records.specs.Directory.{entry_at}
use Rattle.records.specs.Attribute.{attribute_at}
use Rattle.records.specs.Extent.{extent_at}
use Rattle.records.specs.declared.attribute.Attribute.{Attribute}
use Rattle.records.specs.declared.attribute.AttributeData.{AttributeData}
use Rattle.records.specs.declared.attribute.AttributeData.TheVariants.{Embedded, Stream}
use Rattle.inode_record.specs.declared.inode.Inode.{Inode}
use Rattle.lists.specs.Lists.{search_of, list_of, entries_of, attributes_of, extents_of, inode_met, inode_of}
use Rattle.extents.specs.Extents.{disk_of}
use Rattle.files.specs.Read.{read_at, read_all}
use Rattle.streams.specs.Stream.{stream}
use Rattle.files.specs.File.{size_of, read_file, read_plain, read_whole}
use Rattle.inode_record.specs.Inode.{compressed}
use Rattle.streams.specs.Streams.{stream_of}
use Rattle.links.specs.Link.{contents_by, contents_of}

-- ---- what is the same of two answers of one test

module _ {A B : Type 0} (g : A → B) (x y p q : A) where
  pick_even : (d : Bool) → g x ≡ g p → g y ≡ g q → g (pick d x y) ≡ g (pick d p q)
  pick_even true h k = h
  pick_even false h k = k

  eq_even : (a b : ℕ) → g x ≡ g p → g y ≡ g q → g (if_eq a b x y) ≡ g (if_eq a b p q)
  unfolding if_eq
  eq_even a b h k = pick_even (eqb a b) h k

abbrev said : {A : Type 0} → Counted A → Answer A
said c = c.answer

from_even : {A B : Type 0} (a : Answer A) (f g : A → Counted B) (s t : ℕ) → ((x : A) → (f x).answer ≡ (g x).answer) → (from s a f).answer ≡ (from t a g).answer
from_even (Ok x) f g s t h = h x
from_even (Err e) f g s t h = refl

onto_even : {A B : Type 0} (f : A → ℕ → Counted B) (c d : Counted A) → c.answer ≡ d.answer → ((x : A) (s t : ℕ) → (f x s).answer ≡ (f x t).answer)
    → (onto c f).answer ≡ (onto d f).answer
onto_even f c d p h =
    rw p (from_even d.answer (λ a. f a c.nodes) (λ a. f a d.nodes) c.nodes d.nodes (λ x. h x c.nodes d.nodes))

-- what is made of an answer, whatever the nodes
told_even : {A B : Type 0} (g : A → Answer B) (c d : Counted A) → c.answer ≡ d.answer → (onto c λ a s. after s (g a)).answer ≡ (onto d λ a s. after s (g a)).answer
told_even g c d p = onto_even (λ a s. after s (g a)) c d p (λ x s t. refl)

-- what follows an answer that is a, where nothing of it depends on the nodes
pub onto_answer : {A B : Type 0} (f : A → ℕ → Counted B) (g : A → Answer B) (c : Counted A) (a : Answer A) → c.answer ≡ a → ((x : A) (s : ℕ) → (f x s).answer ≡ g x)
    → (onto c f).answer ≡ (a >>= g)
onto_answer {A} f g c a p h = rw p (of a)
  where
    of : (a : Answer A) → (from c.nodes a λ x. f x c.nodes).answer ≡ (a >>= g)
    of (Ok x) = h x c.nodes
    of (Err e) = refl

-- ---- a run, its counts left out

unfoldable pub bare : Run → Run
bare (more p s r) = more p 0 (bare r)
bare (end s) = end 0
bare (refused e s) = refused e 0

-- a count is taken of a part, and of nothing else
part_even : (x : Part) (s t : ℕ) → bare (counted_part x end s) ≡ bare (counted_part x end t)
unfolding counted_part bare
part_even (through p x) s t = part_even x _ _
part_even (gives p x) s t = ap (more p 0) (part_even x s t)
part_even passed s t = refl
part_even ended s t = refl
part_even (failed e) s t = refl

pub scan_even : (b : List ℕ) (q : Search) (s t : ℕ) → bare (scan_of b q s) ≡ bare (scan_of b q t)
unfolding scan_of
scan_even b q s t = part_even (tree_part b q) s t

-- ---- what is read of a run

list_bare : {A : Type 0} (f : Place → Answer A) (r : Run) → (list_of f r).answer ≡ (list_of f (bare r)).answer
unfolding list_of bare
list_bare f (more p s r) = from_even (f p) _ _ s 0 (λ x. told_even (λ xs. Ok (x ∷ xs)) (list_of f r) (list_of f (bare r)) (list_bare f r))
list_bare f (end s) = refl
list_bare f (refused e s) = refl

first_bare : (r : Run) → (nth 0 r).answer ≡ (nth 0 (bare r)).answer
unfolding nth bare
first_bare (more p s r) = refl
first_bare (end s) = refl
first_bare (refused e s) = refl

module _ (b : List ℕ) where
  list_even : {A : Type 0} (f : Place → Answer A) (q : Search) (s t : ℕ) → (list_of f (scan_of b q s)).answer ≡ (list_of f (scan_of b q t)).answer
  list_even f q s t = list_bare f _ ∙ ap (λ (r : Run). (list_of f r).answer) (scan_even b q s t) ∙ sym (list_bare f _)

  first_even : (q : Search) (s t : ℕ) → (nth 0 (scan_of b q s)).answer ≡ (nth 0 (scan_of b q t)).answer
  first_even q s t = first_bare _ ∙ ap (λ (r : Run). (nth 0 r).answer) (scan_even b q s t) ∙ sym (first_bare _)

-- ---- the calls

module _ (b : List ℕ) (v : Volume) where
  pub inode_even : (id s t : ℕ) → (inode_of b v id s).answer ≡ (inode_of b v id t).answer
  unfolding inode_of
  inode_even id s t = told_even (inode_met b v id) _ _ (first_even b (search_of v id 3) s t)

  pub entries_even : (id s t : ℕ) → (entries_of b v id s).answer ≡ (entries_of b v id t).answer
  unfolding entries_of
  entries_even id s t = list_even b (entry_at (hashed_keys v) v.reader b) (search_of v id 9) s t

  pub attributes_even : (id s t : ℕ) → (attributes_of b v id s).answer ≡ (attributes_of b v id t).answer
  unfolding attributes_of
  attributes_even id s t = list_even b (attribute_at v.reader b) (search_of v id 4) s t

  pub extents_even : (id s t : ℕ) → (extents_of b v id s).answer ≡ (extents_of b v id t).answer
  unfolding extents_of
  extents_even id s t = list_even b (extent_at v.reader b) (search_of v id 8) s t

  pub read_even : (i : Inode) (off len s t : ℕ) → (read_file b v i off len s).answer ≡ (read_file b v i off len t).answer
  unfolding read_file
  read_even i off len s t =
      eq_even said _ _ _ _ (compressed i) 1 refl (told_even (λ es. read_at (disk_of v.reader b) (size_of i) es off len) _ _ (extents_even i.ids.private_id s t))

  pub whole_even : (i : Inode) (s t : ℕ) → (read_whole b v i s).answer ≡ (read_whole b v i t).answer
  unfolding read_whole read_plain
  whole_even i s t =
      eq_even said _ _ _ _ (compressed i) 1 refl (told_even (read_all (disk_of v.reader b) (size_of i)) _ _ (extents_even i.ids.private_id s t))

  contents_by_lem : (p : Place) (d : AttributeData) (s t : ℕ) → (contents_by b v p d s).answer ≡ (contents_by b v p d t).answer
  unfolding contents_by stream_of
  contents_by_lem p (Embedded x) s t = refl
  contents_by_lem p (Stream d) s t = told_even (stream (disk_of v.reader b) d.size) _ _ (extents_even d.object s t)

  pub contents_even : (a : Attribute) (s t : ℕ) → (contents_of b v a s).answer ≡ (contents_of b v a t).answer
  contents_even a s t = contents_by_lem a.place a.contents s t
