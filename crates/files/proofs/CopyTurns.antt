-- The turns of the copying pass over a scan's records.
use Prim.Native.Nat.{ℕ, ◌+◌, ◌≤◌, ◌<◌}
use mathlib.Core.Path.{◌≡◌, refl, sym, ◌∙◌}
use mathlib.Core.List.{List, [], ◌∷◌}
use mathlib.Core.Logic.{◌⊎◌, inl, inr}
use lib.ListN.{length, replicate, length-replicate}
use native.Mathlib.Omega.{arith}
use borrow.Author.Rules.{rules}
use Rattle.error.specs.declared.Refusal.{Refusal}
use Rattle.error.proofs.Laws.{at_most_lem}
use Rattle.btree.specs.declared.entries.Search.{Search}
use Rattle.cursor.specs.Left.{left, run_at, in_step, Begins}
use Rattle.cursor.specs.declared.steps.Step.{Step}
use Rattle.records.specs.Extent.{extent_at}
use Rattle.records.specs.declared.extent.Extent.{Extent}
use Rattle.extents.specs.Verdict.{fine}
use Rattle.extents.specs.Extents.{Disk, disk_of, start, in_order, ascending, allows, decide}
use Rattle.files.specs.Inner.{lay, Ready}
use Rattle.lists.specs.Inner.{readable}
use Rattle.lists.specs.declared.seen.Seen.{Seen}
use Rattle.lists.specs.declared.seen.Seen.TheVariants.{Over, Element, Refused}
use Rattle.lists.specs.Seen.{seen_in}
use Rattle.lists.specs.declared.seen.Seen.TheVariants as seen
use Rattle.lists.proofs.Reading.{less_at, less_passed, readable_over, readable_no, readable_at, readable_passed}
use Rattle.extents.proofs.Verdicts.{passed, went}
use Rattle.extents.proofs.ExtentLaws.{decide_goes}
use Rattle.files.proofs.CopyLaws.{lay_none, lay_halt, lay_cons, lay_length}

pub lower : (at : ℕ) (es : List Extent) → in_order start at es ≡ fine → ascending es ≡ fine
unfolding in_order
lower at [] c = refl
lower at (e ∷ es) c = let q = passed _ _ _ _ _ c in sym (at_most_lem _ _ _ _ _ (omega arith) (sym q.1))

-- what follows an extent of an ascending list ascends
pub tail_rises : (at : ℕ) (e : Extent) (es : List Extent) → in_order start at (e ∷ es) ≡ fine → ascending es ≡ fine
unfolding in_order
tail_rises at e es c = lower e.logical es (passed _ _ _ _ _ c).1

-- out, of m bytes, becomes whole once es are laid over it
pub record Laying (d : Disk) (off m : ℕ) (es : List Extent) (out whole : List ℕ) : Type 0 where
  pub same : length out ≡ m
  pub ready : Ready d off (off + m) es
  pub goes : lay d off es out ≡ whole

module _ (d : Disk) (off m : ℕ) (out whole : List ℕ) where
  done : Laying d off m [] out whole → out ≡ whole
  done l = sym (lay_none d off out) ∙ l.goes

  module _ (e : Extent) (es : List Extent) (l : Laying d off m (e ∷ es) out whole) where
    halted : off + m ≤ e.logical → out ≡ whole
    halted k = sym (lay_halt d off 0 e es out l.ready.rising (omega (arith, l.same))) ∙ l.goes

    module _ (k : e.logical < off + m) where
      both : (allows d off (off + m) e ≡ fine) × (decide d off (off + m) es ≡ fine)
      both = went _ _ _ (sym (decide_goes d off (off + m) e es k) ∙ l.ready.decided)

      allowed : allows d off (off + length out) e ≡ fine
      allowed = rw l.same both.0

      laid : (next : List ℕ) → next ≡ lay d off (e ∷ []) out → Laying d off m es next whole
      laid next h = record {
        same = rw h (lay_length d off (e ∷ []) out ∙ l.same);
        ready = record { decided = both.1; rising = tail_rises 0 e es l.ready.rising };
        goes = rw h (sym (lay_cons d off e es out) ∙ l.goes);
      }

module _ (b : List ℕ) (q : Search) (off m : ℕ) (s : Step) (i : ℕ) (out whole : List ℕ) where
  abbrev pub Filling : Type 0
  Filling = Laying (disk_of q.keys.reader b) off m (readable (extent_at q.keys.reader b) (run_at b q s i)) out whole

  module _ (l : Filling) (x : Seen Extent) (k : x ≡ seen_in (extent_at q.keys.reader b) (in_step b q s.reached i)) where
    pub fill_over : x ≡ Over → out ≡ whole
    fill_over y = done (disk_of q.keys.reader b) off m out whole (rw (readable_over (extent_at q.keys.reader b) b q s i x k y) at l)

    pub fill_no : (w : Refusal) → x ≡ Refused w → out ≡ whole
    fill_no w y = done (disk_of q.keys.reader b) off m out whole (rw (readable_no (extent_at q.keys.reader b) b q s i x k w y) at l)

    pub fill_ends : (x ≡ Over) ⊎ ((w : Refusal) × (x ≡ Refused w)) → out ≡ whole
    fill_ends (inl y) = fill_over y
    fill_ends (inr (w, y)) = fill_no w y

    pub fill_passed : x ≡ seen.Passed → (t : Step) → Begins b q t (left b q s.path s.level s.nodes) →
        Laying (disk_of q.keys.reader b) off m (readable (extent_at q.keys.reader b) (run_at b q t t.from)) out whole
    fill_passed y t g = rw (readable_passed (extent_at q.keys.reader b) b q s i x k t y g) l

    module _ (e : Extent) (a : ℕ) (y : x ≡ Element e a) where
      held : Laying (disk_of q.keys.reader b) off m (e ∷ readable (extent_at q.keys.reader b) (run_at b q s a)) out whole
      held = rw (readable_at (extent_at q.keys.reader b) b q s i x k e a y) at l

      pub fill_halt : off + m ≤ e.logical → out ≡ whole
      fill_halt v = halted (disk_of q.keys.reader b) off m out whole e _ held v

      pub fill_allows : e.logical < off + m → allows (disk_of q.keys.reader b) off (off + length out) e ≡ fine
      fill_allows v = allowed (disk_of q.keys.reader b) off m out whole e _ held v

      pub fill_next : e.logical < off + m → (next : List ℕ) → next ≡ lay (disk_of q.keys.reader b) off (e ∷ []) out
          → Laying (disk_of q.keys.reader b) off m (readable (extent_at q.keys.reader b) (run_at b q s a)) next whole
      fill_next v next n = laid (disk_of q.keys.reader b) off m out whole e _ held v next n

-- the buffer is cleared first
module _ (d : Disk) (off k : ℕ) (es : List Extent) (clear : List ℕ) (h : clear ≡ replicate k 0) where
  pub fill_start : Ready d off (off + k) es → Laying d off (length clear) es clear (lay d off es clear)
  fill_start r = let n : length clear ≡ k = rw h (length-replicate k 0) in record { same = refl; ready = rw n r; goes = refl }

  pub fill_whole : (out : List ℕ) → out ≡ lay d off es clear → out ≡ lay d off es (replicate k 0)
  fill_whole out e = rw h at e

pub ruleset fills = (rules, less_at, less_passed, fill_start, fill_whole, fill_ends, fill_passed, fill_halt, fill_allows, fill_next)
