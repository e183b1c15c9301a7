-- The turns of the deciding pass over a scan's records.
use Prim.Native.Nat.{ℕ, ◌≤◌, ◌<◌}
use mathlib.Core.Path.{◌≡◌, refl, sym, ap, ◌∙◌, fun_ext}
use mathlib.Core.Bool.{Bool, true, false}
use mathlib.Core.List.{List, [], ◌∷◌}
use native.Mathlib.Omega.{arith}
use lib.Dec.{leb}
use borrow.Author.Tests.{leb-true, leb-false}
use borrow.Author.Rules.{rules}
use Rattle.error.specs.Answer.{Answer, Ok, Err, pick, if_le}
use Rattle.error.specs.declared.Refusal.{Refusal}
use Rattle.error.specs.declared.Refusal.TheVariants.{Corrupt}
use Rattle.error.proofs.Laws.{at_most_lem, le_cases}
use Rattle.lookup.specs.declared.counted.Counted.{Counted}
use Rattle.lookup.specs.Counted.{after, from, onto}
use Rattle.btree.specs.Scan.{Run}
use Rattle.btree.specs.declared.entries.Search.{Search}
use Rattle.cursor.specs.Left.{left, run_at, in_step, Begins}
use Rattle.cursor.specs.declared.steps.Step.{Step}
use Rattle.records.specs.Extent.{extent_at}
use Rattle.records.specs.declared.extent.Extent.{Extent}
use Rattle.lists.specs.Lists.{list_of}
use Rattle.lists.specs.Inner.{readable}
use Rattle.lists.specs.declared.seen.Seen.{Seen}
use Rattle.lists.specs.declared.seen.Seen.TheVariants.{Over, Passed, Element, Refused}
use Rattle.lists.specs.Seen.{seen_in}
use Rattle.lists.proofs.Reading.{reading, listed, list_start, list_over, list_no, list_at, readable_over, readable_at, less_at, less_passed, run_on}
use Rattle.extents.specs.Inner.{judge_of, OneMore, closing, judged_told, judged_of}
use Rattle.extents.specs.Verdict.{Verdict, fine, ◌>>◌}
use Rattle.extents.specs.Extents.{disk_of, start, in_order, seek, since}
use Rattle.extents.specs.declared.deciding.Judging.{Judging}
use Rattle.extents.specs.declared.deciding.Judged.{Judged}
use Rattle.extents.proofs.Verdicts.{went}
use Rattle.extents.proofs.ExtentLaws.{seek_takes, seek_stays}
use Rattle.extents.proofs.JudgeLaws.{judging, judging_start, judging_end, judging_next, seek_past}

-- what the pass answers, in two parts: the verdict, and where it is fine, a step from which on the extents are those since off
pub record Decided (b : List ℕ) (q : Search) (off stop : ℕ) (n : Run) (r : Judged) : Type 0 where
  pub verdict : after r.nodes r.ruling ≡ (onto (list_of (extent_at q.keys.reader b) n) λ es t. after t (judge_of (disk_of q.keys.reader b) off stop es))
  pub near : r.ruling ≡ fine → readable (extent_at q.keys.reader b) (run_at b q r.kept r.from) ≡ since off (readable (extent_at q.keys.reader b) n)

refused_first : {A : Type 0} (v : Verdict) (y : A) (w : Refusal) → (v >> Ok y) ≡ Err w → v ≡ Err w
refused_first (Ok tt) y w e = absurd (let z : ◌≡◌ {A = ℕ} 0 1 = cc in omega arith)
refused_first (Err x) y w e = let z : x ≡ w = cc in rw z

-- the two parts and the whole: m nodes, the extents xs from the kept step on, and those of the search, ys
module _ (judge : List Extent → Verdict) (pick : List Extent → List Extent) (m : ℕ) (xs ys : List Extent) where
  part_whole : (t : ℕ) (a : Answer (List Extent)) (x : Verdict) → ((es : List Extent) → a ≡ Ok es → ys ≡ es) → after m x ≡ (from t a λ es. after t (judge es)) → (x ≡ fine → xs ≡ pick ys)
      → after m (x >> Ok xs) ≡ (from t a λ es. after t (judge es >> Ok (pick es)))
  part_whole t (Ok es) (Ok tt) h p k =
      let y : judge es ≡ fine = sym (ap (λ (c : Counted (Unit {0})). c.answer) p) in
      let z : m ≡ t = ap (λ (c : Counted (Unit {0})). c.nodes) p in
      rw (y, z, k refl, h es refl)
  part_whole t (Ok es) (Err e) h p k =
      let y : judge es ≡ Err e = sym (ap (λ (c : Counted (Unit {0})). c.answer) p) in
      let z : m ≡ t = ap (λ (c : Counted (Unit {0})). c.nodes) p in
      rw (y, z)
  part_whole t (Err w) (Ok tt) h p k =
      let y : fine ≡ Err w = ap (λ (c : Counted (Unit {0})). c.answer) p in
      absurd (let z : ◌≡◌ {A = ℕ} 0 1 = cc in omega arith)
  part_whole t (Err w) (Err e) h p k =
      let y : ◌≡◌ {A = Answer (Unit {0})} (Err e) (Err w) = ap (λ (c : Counted (Unit {0})). c.answer) p in
      let u : e ≡ w = cc in
      let z : m ≡ t = ap (λ (c : Counted (Unit {0})). c.nodes) p in
      rw (u, z)

  module _ (t : ℕ) where
    whole_verdict_lem : (a : Answer (List Extent)) (x : Verdict) → after m (x >> Ok xs) ≡ (from t a λ es. after t (judge es >> Ok (pick es))) → after m x ≡ (from t a λ es. after t (judge es))
    whole_verdict_lem (Ok es) (Ok tt) p =
        let y = went (judge es) _ _ (sym (ap (λ (c : Counted (List Extent)). c.answer) p)) in
        let z : m ≡ t = ap (λ (c : Counted (List Extent)). c.nodes) p in
        rw (y.0, z)
    whole_verdict_lem (Ok es) (Err e) p =
        let y : judge es ≡ Err e = refused_first (judge es) (pick es) e (sym (ap (λ (c : Counted (List Extent)). c.answer) p)) in
        let z : m ≡ t = ap (λ (c : Counted (List Extent)). c.nodes) p in
        rw (y, z)
    whole_verdict_lem (Err w) (Ok tt) p =
        let y : ◌≡◌ {A = Answer _} (Ok xs) (Err w) = ap (λ (c : Counted (List Extent)). c.answer) p in
        absurd (let z : ◌≡◌ {A = ℕ} 0 1 = cc in omega arith)
    whole_verdict_lem (Err w) (Err e) p =
        let y : ◌≡◌ {A = Answer (List Extent)} (Err e) (Err w) = ap (λ (c : Counted (List Extent)). c.answer) p in
        let u : e ≡ w = cc in
        let z : m ≡ t = ap (λ (c : Counted (List Extent)). c.nodes) p in
        rw (u, z)

    whole_near : (a : Answer (List Extent)) (x : Verdict) → ((es : List Extent) → a ≡ Ok es → ys ≡ es) → after m (x >> Ok xs) ≡ (from t a λ es. after t (judge es >> Ok (pick es))) → x ≡ fine → xs ≡ pick ys
    whole_near (Ok es) x h p f =
        let y = went (judge es) _ _ (sym (ap (λ (c : Counted (List Extent)). c.answer) p) ∙ ap (λ (u : Verdict). u >> Ok xs) f) in
        let u : xs ≡ pick es = cc y.1 in
        rw (h es refl) u
    whole_near (Err w) x h p f =
        let y : (x >> Ok xs) ≡ Err w = ap (λ (c : Counted (List Extent)). c.answer) p in
        let u : ◌≡◌ {A = Answer _} (Ok xs) (Err w) = ap (λ (u : Verdict). u >> Ok xs) (sym f) ∙ y in
        absurd (let z : ◌≡◌ {A = ℕ} 0 1 = cc in omega arith)

module _ (b : List ℕ) (q : Search) (off stop : ℕ) (n : Run) (r : Judged) where
  -- the extents of the run, and their list
  all_held : (es : List Extent) → (list_of (extent_at q.keys.reader b) n).answer ≡ Ok es → readable (extent_at q.keys.reader b) n ≡ es
  all_held es h = listed (extent_at q.keys.reader b) n es h

  decided_told : Decided b q off stop n r → judged_told b q r ≡ judged_of b q off stop n
  unfolding judged_of
  decided_told w =
      part_whole (judge_of (disk_of q.keys.reader b) off stop) (since off) r.nodes (readable (extent_at q.keys.reader b) (run_at b q r.kept r.from)) (readable (extent_at q.keys.reader b) n)
      (list_of (extent_at q.keys.reader b) n).nodes (list_of (extent_at q.keys.reader b) n).answer r.ruling all_held w.verdict w.near

  pub told_decided : judged_told b q r ≡ judged_of b q off stop n → Decided b q off stop n r
  unfolding judged_of
  told_decided e = record {
    verdict = whole_verdict_lem (judge_of (disk_of q.keys.reader b) off stop) (since off) r.nodes (readable (extent_at q.keys.reader b) (run_at b q r.kept r.from)) (readable (extent_at q.keys.reader b) n)
        (list_of (extent_at q.keys.reader b) n).nodes (list_of (extent_at q.keys.reader b) n).answer r.ruling e;
    near = whole_near (judge_of (disk_of q.keys.reader b) off stop) (since off) r.nodes (readable (extent_at q.keys.reader b) (run_at b q r.kept r.from)) (readable (extent_at q.keys.reader b) n)
        (list_of (extent_at q.keys.reader b) n).nodes (list_of (extent_at q.keys.reader b) n).answer r.ruling all_held e;
  }

-- where j is known, cur is what is left of the run n, and kept what is left from the kept entry on
pub record Going (b : List ℕ) (q : Search) (off stop : ℕ) (n : Run) (j : Judging) (cur kept : Run) : Type 0 where
  pub goes : reading (extent_at q.keys.reader b) (judging (disk_of q.keys.reader b) off stop j) cur ≡ (onto (list_of (extent_at q.keys.reader b) n) λ es t. after t (judge_of (disk_of q.keys.reader b) off stop es))
  pub near : j.rises ≡ true → in_order start j.last (readable (extent_at q.keys.reader b) cur) ≡ fine
      → seek off (readable (extent_at q.keys.reader b) kept) (readable (extent_at q.keys.reader b) cur) ≡ since off (readable (extent_at q.keys.reader b) n)

rose : (m l : ℕ) (b : Bool) → if_le m l b false ≡ true → (m ≤ l) × (b ≡ true)
rose m l b = le_cases (λ (x : Bool). x ≡ true → (m ≤ l) × (b ≡ true)) (λ h e. (h, e)) (λ h e. absurd (let z : ◌≡◌ {A = ℕ} 0 1 = cc in omega arith))

closing_rises : (j : Judging) → closing j ≡ fine → j.rises ≡ true
closing_rises j = of j.rises
  where
    of : (x : Bool) → pick x j.ruling (Err Corrupt) ≡ fine → x ≡ true
    of true e = refl
    of false e = absurd (let z : ◌≡◌ {A = ℕ} 0 1 = cc in omega arith)

module _ (b : List ℕ) (q : Search) (off stop : ℕ) (n : Run) where
  pub judge_start : (j : Judging) → j ≡ record { last = 0; rises = true; ruling = fine } → Going b q off stop n j n n
  judge_start j h = record {
    goes = list_start (extent_at q.keys.reader b) (judging (disk_of q.keys.reader b) off stop j) n
        ∙ ap (λ (k : List Extent → Verdict). onto (list_of (extent_at q.keys.reader b) n) λ es t. after t (k es)) (fun_ext (λ es. judging_start (disk_of q.keys.reader b) off stop j es h));
    near = λ r c. refl;
  }

  -- the next extent in the leaf of a step; x is what was seen, and kept is what is kept
  module _ (j : Judging) (s : Step) (c : ℕ) (kept : Run) (i : Going b q off stop n j (run_at b q s c) kept)
      (x : Seen Extent) (k : x ≡ seen_in (extent_at q.keys.reader b) (in_step b q s.reached c)) where
    pub judge_end : x ≡ Over → (y : Verdict) (d : Step) (f : ℕ) → kept ≡ run_at b q d f → y ≡ closing j → judged_told b q (record { ruling = y; kept = d; from = f; nodes = s.nodes }) ≡ judged_of b q off stop n
    unfolding in_order seek
    judge_end l y d f u w =
        let o : readable (extent_at q.keys.reader b) (run_at b q s c) ≡ [] = readable_over (extent_at q.keys.reader b) b q s c x k l in
        decided_told b q off stop n (record { ruling = y; kept = d; from = f; nodes = s.nodes }) (record {
          verdict = rw w (ap (after s.nodes) (sym (judging_end (disk_of q.keys.reader b) off stop j)) ∙ list_over (extent_at q.keys.reader b) b q s c x k (judging (disk_of q.keys.reader b) off stop j) _ i.goes l);
          near = λ g. rw (← u) (rw o at (i.near (closing_rises j (sym w ∙ g)) (rw o)));
        })

    pub judge_no : (w : Refusal) → x ≡ Refused w → (d : Step) (f : ℕ) → judged_told b q (record { ruling = Err w; kept = d; from = f; nodes = s.nodes }) ≡ judged_of b q off stop n
    judge_no w l d f =
        decided_told b q off stop n (record { ruling = Err w; kept = d; from = f; nodes = s.nodes }) (record {
          verdict = list_no (extent_at q.keys.reader b) b q s c x k (judging (disk_of q.keys.reader b) off stop j) _ i.goes w l;
          near = λ g. absurd (let z : ◌≡◌ {A = ℕ} 0 1 = cc in omega arith);
        })

    -- the leaf is passed
    pub judge_passed : x ≡ Passed → (t : Step) → Begins b q t (left b q s.path s.level s.nodes) → Going b q off stop n j (run_at b q t t.from) kept
    judge_passed l t g = rw (run_on (extent_at q.keys.reader b) b q s c x k t l g) i

    module _ (e : Extent) (a : ℕ) (l : x ≡ Element e a) (y : Judging) (o : OneMore (disk_of q.keys.reader b) off stop j e y) where
      on : reading (extent_at q.keys.reader b) (judging (disk_of q.keys.reader b) off stop y) (run_at b q s a) ≡ (onto (list_of (extent_at q.keys.reader b) n) λ es m. after m (judge_of (disk_of q.keys.reader b) off stop es))
      on = list_at (extent_at q.keys.reader b) b q s c x k (judging (disk_of q.keys.reader b) off stop j) _ i.goes (judging (disk_of q.keys.reader b) off stop y) e a l (judging_next (disk_of q.keys.reader b) off stop j y e o)

      held : readable (extent_at q.keys.reader b) (run_at b q s c) ≡ e ∷ readable (extent_at q.keys.reader b) (run_at b q s a)
      held = readable_at (extent_at q.keys.reader b) b q s c x k e a l

      -- what was sought from here on
      from_here : y.rises ≡ true → in_order start y.last (readable (extent_at q.keys.reader b) (run_at b q s a)) ≡ fine
          → seek off (readable (extent_at q.keys.reader b) kept) (e ∷ readable (extent_at q.keys.reader b) (run_at b q s a)) ≡ since off (readable (extent_at q.keys.reader b) n)
      unfolding in_order
      from_here r d =
          let m = rose j.last e.logical j.rises (sym o.rises ∙ r) in
          rw held at (i.near m.1 (rw held (sym (at_most_lem _ _ _ _ _ m.0 (sym (rw o.last at d))))))

      pub judge_near : e.logical ≤ off → Going b q off stop n y (run_at b q s a) (run_at b q s c)
      judge_near v = record {
        goes = on;
        near = λ r d. rw held (sym (seek_takes off _ e _ v) ∙ from_here r d);
      }

      pub judge_far : off < e.logical → Going b q off stop n y (run_at b q s a) kept
      judge_far v = record {
        goes = on;
        near = λ r d. seek_past off e.logical _ _ v (rw o.last at d) ∙ sym (seek_stays off _ e _ v) ∙ from_here r d;
      }

-- whether an extent begins at or before the offset
pub by_start : (a b : ℕ) (z : Bool) → z ≡ leb a b → z ≡ true → a ≤ b
by_start a b z e t = leb-true a b (sym e ∙ t)

pub by_later : (a b : ℕ) (z : Bool) → z ≡ leb a b → z ≡ false → b < a
by_later a b z e t = leb-false a b (sym e ∙ t)

pub judge_whole : (b : List ℕ) (q : Search) (off stop : ℕ) (n : Run) (t : Step) (r : Judged) → Begins b q t n → judged_told b q r ≡ judged_of b q off stop (run_at b q t t.from) →
    judged_told b q r ≡ judged_of b q off stop n
judge_whole b q off stop n t r h e = rw h.run at e

pub ruleset turns = (rules, less_at, less_passed, judge_start)
