-- The turns of the judging loop.
use Prim.Native.Nat.{ℕ, ◌+◌, ◌-◌, ◌≤◌, min}
use mathlib.Core.Path.{◌≡◌, refl, sym, ap, ◌∙◌}
use mathlib.Core.List.{List, [], ◌∷◌}
use mathlib.Core.Bool.{Bool, true, false}
use borrow.Author.Tests.{leb-true}
use lib.Dec.{leb}
use Rattle.error.specs.Answer.{Answer, Ok, Err, pick, if_le}
use Rattle.error.specs.declared.Refusal.TheVariants.{Corrupt}
use Rattle.error.proofs.Laws.{at_most_lem}
use Rattle.lookup.specs.declared.counted.Counted.{Counted}
use Rattle.lookup.specs.Counted.{after, onto}
use Rattle.btree.specs.Scan.{Run, scan_of}
use Rattle.btree.specs.declared.entries.Search.{Search}
use Rattle.node.specs.declared.place.Place.{Place}
use Rattle.cursor.specs.Left.{run_at, in_step}
use Rattle.cursor.specs.declared.steps.Step.{Step}
use Rattle.volume.specs.declared.Volume.{Volume}
use Rattle.records.specs.Extent.{extent_at}
use Rattle.records.specs.declared.extent.Extent.{Extent}
use Rattle.lists.specs.Lists.{search_of, list_of, extents_of}
use Rattle.lists.specs.declared.seen.Seen.{Seen}
use Rattle.lists.specs.declared.seen.Seen.TheVariants.{Over, Element}
use Rattle.lists.specs.Seen.{seen_in}
use Rattle.lists.proofs.Reading.{reading, list_start, list_over, list_at}
use Rattle.lists.proofs.Turns as list-turns
use Rattle.extents.specs.Verdict.{Verdict, fine, ◌>>◌}
use Rattle.extents.specs.Extents.{Disk, disk_of}
use Rattle.streams.specs.Inner.{ready, settle, wanted_of, next_pos, step_verdict, poured, settled_by}
use Rattle.streams.specs.Stream.{stream}
use Rattle.streams.specs.Streams.{stream_of, settled_of}
use Rattle.streams.proofs.StreamLaws.{stream_two}

settle_past : (d : Disk) (size pos : ℕ) (es : List Extent) → size ≤ pos → settle d size pos es ≡ fine
unfolding settle
settle_past d size pos [] h = refl
settle_past d size pos (e ∷ es) h = sym (at_most_lem _ _ _ _ _ h refl)

-- an extent, and those after it
settle_cons : (d : Disk) (size pos : ℕ) (e : Extent) (es : List Extent) → settle d size pos (e ∷ es) ≡ (step_verdict d size pos e >> settle d size (next_pos size pos e) es)
unfolding settle step_verdict next_pos wanted_of if_le
settle_cons d size pos e es = of (leb size pos) (leb pos e.logical) refl
  where
    a : ℕ
    a = min e.logical size

    n : ℕ
    n = min e.len (size - a)

    of : (t u : Bool) → leb size pos ≡ t
        → pick t fine (pick u (ready d e n >> settle d size (a + n) es) (Err Corrupt)) ≡ (pick t fine (pick u (ready d e n) (Err Corrupt)) >> settle d size (pick t pos (a + n)) es)
    of true u h = sym (settle_past d size pos es (leb-true size pos h))
    of false true h = refl
    of false false h = refl

-- the verdict so far, and what is left
unfoldable pub settling : Disk → ℕ → Verdict → ℕ → List Extent → Verdict
settling d size v pos es = v >> settle d size pos es

pub settling_next : (d : Disk) (size : ℕ) (v z : Verdict) (pos m : ℕ) (e : Extent) → z ≡ (v >> step_verdict d size pos e) → m ≡ next_pos size pos e → (es : List Extent) → settling d size v pos (e ∷ es) ≡ settling d size z m es
unfolding settling
settling_next d size (Ok tt) z pos m e p q es = rw (p, q) (settle_cons d size pos e es)
settling_next d size (Err w) z pos m e p q es = rw p

settling_end : (d : Disk) (size : ℕ) (v : Verdict) (pos : ℕ) → settling d size v pos [] ≡ v
unfolding settling settle
settling_end d size (Ok tt) pos = refl
settling_end d size (Err w) pos = refl

module _ (g : Place → Answer Extent) (d : Disk) (size : ℕ) where
  pub settle_start : (r n : Run) → r ≡ n → reading g (settling d size fine 0) r ≡ (onto (list_of g n) λ es t. after t (settle d size 0 es))
  unfolding settling
  settle_start r n e = rw e (list_start g (settling d size fine 0) n)

  module _ (b : List ℕ) (q : Search) (s : Step) (i : ℕ) (x : Seen Extent) (t : x ≡ seen_in g (in_step b q s.reached i))
      (v : Verdict) (pos : ℕ) (whole : Counted (Unit {0})) (inv : reading g (settling d size v pos) (run_at b q s i) ≡ whole) where
    pub settle_end : x ≡ Over → after s.nodes v ≡ whole
    settle_end e = ap (after s.nodes) (sym (settling_end d size v pos)) ∙ list_over g b q s i x t (settling d size v pos) whole inv e

    pub settle_next : (z : Verdict) (m : ℕ) (e : Extent) (a : ℕ) → x ≡ Element e a → z ≡ (v >> step_verdict d size pos e) → m ≡ next_pos size pos e → reading g (settling d size z m) (run_at b q s a) ≡ whole
    settle_next z m e a h k l = list_at g b q s i x t (settling d size v pos) whole inv (settling d size z m) e a h (settling_next d size v z pos m e k l)

-- what settling refuses is what the stream refuses
settled_one : (n : ℕ) (v : Verdict) (x : List ℕ) → (onto (after n (v >> Ok x)) λ bs t. after t fine) ≡ after n v
settled_one n (Ok tt) x = refl
settled_one n (Err w) x = refl

settled_from : (d : Disk) (size n : ℕ) (c : Answer (List Extent)) → (onto (onto (after n c) λ es t. after t (stream d size es)) λ bs t. after t fine) ≡ (onto (after n c) λ es t. after t (settle d size 0 es))
unfolding stream
settled_from d size n (Ok es) = rw (stream_two d size 0 es) (settled_one n (settle d size 0 es) (poured d size 0 es))
settled_from d size n (Err w) = refl

pub settled_is : (b : List ℕ) (v : Volume) (object size s : ℕ) → settled_of b v object size s ≡ settled_by b v object size s
unfolding settled_of settled_by stream_of
settled_is b v object size s = settled_from (disk_of v.reader b) size (extents_of b v object s).nodes (extents_of b v object s).answer

pub settle_done : (b : List ℕ) (v : Volume) (object size s : ℕ) (q : Search) (z : Counted (Unit {0})) → q ≡ search_of v object 8
    → z ≡ (onto (list_of (extent_at q.keys.reader b) (scan_of b q s)) λ es t. after t (settle (disk_of v.reader b) size 0 es)) → z ≡ settled_of b v object size s
unfolding settled_by extents_of
settle_done b v object size s q z e g = (rw e at g) ∙ sym (settled_is b v object size s)

pub ruleset settles = (list-turns.turns, settle_start, settle_end, settle_next, settle_done)
