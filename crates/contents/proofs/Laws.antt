-- The turns of the loop over a file's extents, and what a whole read refuses as the definition has it.
use Prim.Native.Nat.{ℕ, ◌≤◌, ◌<◌}
use mathlib.Core.Path.{◌≡◌, refl, sym, ap, ◌∙◌}
use mathlib.Core.List.{List, [], ◌∷◌}
use mathlib.Core.Logic.{◌⊎◌, inl, inr}
use borrow.Author.Rules.{rules}
use Rattle.error.specs.Answer.{Answer, Ok, Err}
use Rattle.error.specs.declared.Refusal.{Refusal}
use Rattle.error.specs.declared.Refusal.TheVariants.{Corrupt}
use Rattle.error.proofs.Laws.{at_most_lem, above}
use Rattle.lookup.specs.declared.counted.Counted.{Counted}
use Rattle.lookup.specs.Counted.{after, onto}
use Rattle.btree.specs.Scan.{Run, scan_of}
use Rattle.btree.specs.declared.entries.Search.{Search}
use Rattle.node.specs.declared.place.Place.{Place}
use Rattle.cursor.specs.Left.{run_at, in_step, Begins}
use Rattle.cursor.specs.declared.steps.Reached.{Reached}
use Rattle.cursor.specs.declared.steps.Step.{Step}
use Rattle.volume.specs.declared.Volume.{Volume}
use Rattle.records.specs.Extent.{extent_at}
use Rattle.records.specs.declared.extent.Extent.{Extent}
use Rattle.inode_record.specs.declared.inode.Inode.{Inode}
use Rattle.lists.specs.Lists.{search_of, list_of}
use Rattle.lists.specs.declared.seen.Seen.{Seen}
use Rattle.lists.specs.declared.seen.Seen.TheVariants.{Over, Element}
use Rattle.lists.specs.Seen.{seen_in}
use Rattle.lists.proofs.Reading.{reading, list_start, list_over, list_at}
use Rattle.lists.proofs.Turns as list-turns
use Rattle.extents.proofs.Verdicts.{le_or_gt}
use Rattle.extents.specs.Verdict.{Verdict, fine, ◌>>◌, at_most}
use Rattle.extents.specs.Extents.{disk_of, end, in_order, apart, decide, seek}
use Rattle.extents.specs.Inner.{judge_of, judged_told, judged_of}
use Rattle.extents.proofs.JudgeTurns.{told_decided}
use Rattle.extents.specs.declared.deciding.Judged.{Judged}
use Rattle.contents.specs.Whole.{settled_whole}
use Rattle.contents.specs.Inner.{apart_after, apart_of, whole_verdict, whole_over, whole_from, whole_by}
use Rattle.contents.proofs.Plain.{whole_is}

-- the verdict so far, and what is left after the last extent
unfoldable pub ordering : Verdict → Extent → List Extent → Verdict
ordering v last es = v >> in_order end (end last) es

order_cons : (at : ℕ) (e : Extent) (es : List Extent) → in_order end at (e ∷ es) ≡ (at_most at e.logical Corrupt fine >> in_order end (end e) es)
unfolding in_order
order_cons at e es = of (le_or_gt at e.logical)
  where
    of : (at ≤ e.logical) ⊎ (e.logical < at) → in_order end at (e ∷ es) ≡ (at_most at e.logical Corrupt fine >> in_order end (end e) es)
    of (inl h) = sym (at_most_lem _ _ _ _ _ h refl) ∙ ap (λ (v : Verdict). v >> in_order end (end e) es) (at_most_lem _ _ _ _ _ h refl)
    of (inr h) = sym (above _ _ _ _ _ h refl) ∙ ap (λ (v : Verdict). v >> in_order end (end e) es) (above _ _ _ _ _ h refl)

ordering_next : (v z : Verdict) (last e : Extent) → z ≡ apart_after v last e → (es : List Extent) → ordering v last (e ∷ es) ≡ ordering z e es
unfolding ordering
ordering_next (Ok tt) z last e p es = rw p (order_cons (end last) e es)
ordering_next (Err w) z last e p es = rw p

ordering_end : (v : Verdict) (last : Extent) → ordering v last [] ≡ v
unfolding ordering in_order
ordering_end (Ok tt) last = refl
ordering_end (Err w) last = refl

pub apart_start : (g : Place → Answer Extent) (n : Run) (last : Extent) → last ≡ record { logical = 0; len = 0; phys_block = 0 }
    → reading g (ordering fine last) n ≡ (onto (list_of g n) λ es t. after t (apart es))
unfolding ordering
apart_start g n last h = rw h (list_start g (ordering fine (record { logical = 0; len = 0; phys_block = 0 })) n)

module _ (g : Place → Answer Extent) (b : List ℕ) (q : Search) (s : Step) (i : ℕ) (x : Seen Extent) (t : x ≡ seen_in g (in_step b q s.reached i))
    (v : Verdict) (last : Extent) (whole : Counted (Unit {0})) (inv : reading g (ordering v last) (run_at b q s i) ≡ whole) where
  pub apart_end : x ≡ Over → after s.nodes v ≡ whole
  apart_end e = ap (after s.nodes) (sym (ordering_end v last)) ∙ list_over g b q s i x t (ordering v last) whole inv e

  pub apart_next : (z : Verdict) (e : Extent) (a : ℕ) → x ≡ Element e a → z ≡ apart_after v last e → reading g (ordering z e) (run_at b q s a) ≡ whole
  apart_next z e a h k = list_at g b q s i x t (ordering v last) whole inv (ordering z e) e a h (ordering_next v z last e k)

-- two tests of one list, one after the other
module _ (n : ℕ) (f g : List Extent → Verdict) where
  first_no : (a : Answer (List Extent)) (m : ℕ) (w : Refusal) → after m (Err w) ≡ (onto (after n a) λ es t. after t (f es)) → after m (Err w) ≡ (onto (after n a) λ es t. after t (f es >> g es))
  first_no (Ok es) m w h =
      let k : m ≡ n = ap (λ (c : Counted (Unit {0})). c.nodes) h in
      let v : f es ≡ Err w = sym (ap (λ (c : Counted (Unit {0})). c.answer) h) in
      rw (k, v)
  first_no (Err e) m w h = h

  then_second : (a : Answer (List Extent)) (m k : ℕ) (v : Verdict) → after m fine ≡ (onto (after n a) λ es t. after t (f es)) → after k v ≡ (onto (after n a) λ es t. after t (g es))
      → after k v ≡ (onto (after n a) λ es t. after t (f es >> g es))
  then_second (Ok es) m k v h u =
      let w : f es ≡ fine = sym (ap (λ (c : Counted (Unit {0})). c.answer) h) in
      rw w u
  then_second (Err e) m k v h u = u

module _ (b : List ℕ) (q : Search) (size : ℕ) (s : Run) (a : Counted (Unit {0})) (p : a ≡ apart_of b q s) where
  pub whole_no : (w : Refusal) → a.answer ≡ Err w → a ≡ whole_over b q size s
  unfolding apart_of whole_over whole_verdict
  whole_no w h =
      let k : after a.nodes (Err w) ≡ a = ap (λ (x : Verdict). after a.nodes x) (sym h) in
      sym k
      ∙ first_no (list_of (extent_at q.keys.reader b) s).nodes apart (judge_of (disk_of q.keys.reader b) 0 size) (list_of (extent_at q.keys.reader b) s).answer a.nodes w (k ∙ p)

  pub whole_judged : (j : Judged) → a.answer ≡ fine → judged_told b q j ≡ judged_of b q 0 size s → after j.nodes j.ruling ≡ whole_over b q size s
  unfolding apart_of whole_over whole_verdict
  whole_judged j h d =
      let k : after a.nodes fine ≡ a = ap (λ (z : Verdict). after a.nodes z) (sym h) in
      then_second (list_of (extent_at q.keys.reader b) s).nodes apart (judge_of (disk_of q.keys.reader b) 0 size) (list_of (extent_at q.keys.reader b) s).answer a.nodes j.nodes j.ruling (k ∙ p) (told_decided b q 0 size s j d).verdict

-- a file without extents
pub whole_none : (b : List ℕ) (v : Volume) (i : Inode) (t : Step) → t.reached ≡ Reached.End → after t.nodes fine ≡ whole_from b v i (run_at b (search_of v i.ids.private_id 8) t t.from)
unfolding whole_from whole_over whole_verdict in_order judge_of decide seek list_of run_at
whole_none b v i t e = rw e

-- where the step begins the file's extents
pub whole_begun : (b : List ℕ) (v : Volume) (i : Inode) (s : ℕ) (q : Search) (t : Step) (r : Counted (Unit {0})) → q ≡ search_of v i.ids.private_id 8 → Begins b q t (scan_of b q s)
    → r ≡ whole_from b v i (run_at b (search_of v i.ids.private_id 8) t t.from) → r ≡ settled_whole b v i s
unfolding whole_by
whole_begun b v i s q t r e h g = (rw (rw e at h.run) at g) ∙ sym (whole_is b v i s)

pub ruleset aparts = (list-turns.turns, apart_start, apart_end, apart_next)

pub ruleset wholes = (rules, whole_no, whole_judged, whole_none)
