-- The deciding pass as a fold over the extents: it gives the inOrder's verdict first, then that of the extents since off.
use Prim.Native.Nat.{ℕ, ◌≤◌, ◌<◌}
use mathlib.Core.Path.{◌≡◌, refl, sym, ap, ◌∙◌}
use mathlib.Core.Bool.{Bool, true, false}
use mathlib.Core.List.{List, [], ◌∷◌}
use mathlib.Core.Logic.{◌⊎◌, inl, inr}
use native.Mathlib.Omega.{arith}
use lib.Dec.{leb}
use Rattle.error.specs.Answer.{Answer, Ok, Err, pick, if_le}
use Rattle.error.specs.declared.Refusal.TheVariants.{Corrupt}
use Rattle.error.proofs.Laws.{at_most_lem, above}
use Rattle.records.specs.declared.extent.Extent.{Extent}
use Rattle.extents.specs.Verdict.{Verdict, fine, ◌>>◌}
use Rattle.extents.specs.Extents.{Disk, start, in_order, ascending, seek, allows, decide}
use Rattle.extents.specs.Inner.{touches, judge_of, OneMore, closing}
use Rattle.extents.specs.declared.deciding.Judging.{Judging}
use Rattle.extents.proofs.Verdicts.{le_or_gt, passed, assoc}
use Rattle.extents.proofs.ExtentLaws.{decide_stop, decide_goes, seek_takes, seek_stays}

-- the verdict of the extents since off, where v is that of those so far
unfoldable pub since_from : Disk → ℕ → ℕ → Verdict → List Extent → Verdict
since_from d off stop v [] = v
since_from d off stop v (e ∷ es) = since_from d off stop (if_le e.logical off (touches d off stop e) (v >> touches d off stop e)) es

-- what the pass says, where j is known and es are still to come
unfoldable pub judging : Disk → ℕ → ℕ → Judging → List Extent → Verdict
judging d off stop j es = pick j.rises (in_order start j.last es >> since_from d off stop j.ruling es) (Err Corrupt)

then_fine : (v : Verdict) → (v >> fine) ≡ v
then_fine (Ok tt) = refl
then_fine (Err e) = refl

-- what follows a verdict counts only where it is fine
then_same : {A : Type 0} (v : Verdict) (x y : Answer A) → (v ≡ fine → x ≡ y) → (v >> x) ≡ (v >> y)
then_same (Ok tt) x y h = h refl
then_same (Err e) x y h = refl

module _ (d : Disk) (off stop : ℕ) where
  -- an ascending list that starts at or past stop is not looked at
  decide_past : (at : ℕ) (es : List Extent) → stop ≤ at → in_order start at es ≡ fine → decide d off stop es ≡ fine
  unfolding in_order decide
  decide_past at [] h c = refl
  decide_past at (e ∷ es) h c = decide_stop d off stop e es (omega (arith, (passed _ _ _ _ _ c).0))

  decide_one : (at : ℕ) (e : Extent) (es : List Extent) → in_order start at (e ∷ es) ≡ fine → decide d off stop (e ∷ es) ≡ (touches d off stop e >> decide d off stop es)
  unfolding in_order touches
  decide_one at e es c = go (le_or_gt stop e.logical)
    where
      go : (stop ≤ e.logical) ⊎ (e.logical < stop) → decide d off stop (e ∷ es) ≡ (touches d off stop e >> decide d off stop es)
      go (inl h) =
          let q : touches d off stop e ≡ fine = sym (at_most_lem _ _ _ _ _ h refl) in
          rw (decide_stop d off stop e es h, q, decide_past e.logical es h (passed _ _ _ _ _ c).1)
      go (inr h) =
          let q : touches d off stop e ≡ allows d off stop e = sym (above _ _ _ _ _ h refl) in
          rw (decide_goes d off stop e es h, q)

  since_one : (v : Verdict) (e : Extent) (es : List Extent) → e.logical ≤ off → since_from d off stop v (e ∷ es) ≡ since_from d off stop (touches d off stop e) es
  unfolding since_from
  since_one v e es h = ap (λ (w : Verdict). since_from d off stop w es) (sym (at_most_lem _ _ _ _ _ h refl))

  since_more : (v : Verdict) (e : Extent) (es : List Extent) → off < e.logical → since_from d off stop v (e ∷ es) ≡ since_from d off stop (v >> touches d off stop e) es
  unfolding since_from
  since_more v e es h = ap (λ (w : Verdict). since_from d off stop w es) (sym (above _ _ _ _ _ h refl))

  since_none : (v : Verdict) → since_from d off stop v [] ≡ (v >> decide d off stop [])
  unfolding since_from decide
  since_none v = sym (then_fine v)

  -- past off each extent adds its own verdict
  since_later : (at : ℕ) (v : Verdict) (es : List Extent) → off < at → in_order start at es ≡ fine → since_from d off stop v es ≡ (v >> decide d off stop es)
  unfolding in_order
  since_later at v [] h c = since_none v
  since_later at v (e ∷ es) h c =
      let q = passed _ _ _ _ _ c in
      since_more v e es (omega (arith, q.0))
      ∙ since_later e.logical (v >> touches d off stop e) es (omega (arith, q.0)) q.1
      ∙ assoc v (touches d off stop e) (decide d off stop es)
      ∙ rw (decide_one at e es c)

  -- where v is the verdict of best up to es, the fold gives the verdict of what is sought
  since_seek : (at : ℕ) (v : Verdict) (best es : List Extent) → decide d off stop best ≡ (v >> decide d off stop es) → in_order start at es ≡ fine
      → since_from d off stop v es ≡ decide d off stop (seek off best es)
  unfolding in_order seek
  since_seek at v best [] b c = since_none v ∙ sym b
  since_seek at v best (e ∷ es) b c = go (le_or_gt e.logical off) (since_seek e.logical (touches d off stop e) (e ∷ es) es)
    where
      q : (at ≤ e.logical) × (in_order start e.logical es ≡ fine)
      q = passed _ _ _ _ _ c

      go : (e.logical ≤ off) ⊎ (off < e.logical)
          → (decide d off stop (e ∷ es) ≡ (touches d off stop e >> decide d off stop es) → in_order start e.logical es ≡ fine → since_from d off stop (touches d off stop e) es ≡ decide d off stop (seek off (e ∷ es) es))
          → since_from d off stop v (e ∷ es) ≡ decide d off stop (seek off best (e ∷ es))
      go (inl h) ih = rw (seek_takes off best e es h) (since_one v e es h ∙ ih (decide_one at e es c) q.1)
      go (inr h) ih =
          rw (seek_stays off best e es h)
          (since_more v e es h ∙ since_later e.logical (v >> touches d off stop e) es h q.1 ∙ assoc v (touches d off stop e) (decide d off stop es) ∙ (rw (decide_one at e es c) at (sym b)))

  pub judging_start : (j : Judging) (es : List Extent) → j ≡ record { last = 0; rises = true; ruling = fine } → judging d off stop j es ≡ judge_of d off stop es
  unfolding judging judge_of
  judging_start j es q = rw q (then_same (ascending es) _ _ (λ c. since_seek 0 fine es es refl c))

  pub judging_end : (j : Judging) → judging d off stop j [] ≡ closing j
  unfolding judging in_order since_from
  judging_end j = refl

  order : (m l : ℕ) (b : Bool) (c x : Verdict) → pick b (if_le m l c (Err Corrupt) >> x) (Err Corrupt) ≡ pick (if_le m l b false) (c >> x) (Err Corrupt)
  unfolding if_le
  order m l b c x = go b (leb m l)
    where
      go : (b t : Bool) → pick b (pick t c (Err Corrupt) >> x) (Err Corrupt) ≡ pick (pick t b false) (c >> x) (Err Corrupt)
      go true true = refl
      go true false = refl
      go false true = refl
      go false false = refl

  pub judging_next : (j r : Judging) (e : Extent) → OneMore d off stop j e r → (es : List Extent) → judging d off stop j (e ∷ es) ≡ judging d off stop r es
  unfolding judging in_order since_from
  judging_next j r e o es = rw (o.last, o.rises, o.ruling) (order j.last e.logical j.rises (in_order start e.logical es) _)

-- no extent of an ascending list past off is the last at or before it
pub seek_past : (off at : ℕ) (best es : List Extent) → off < at → in_order start at es ≡ fine → seek off best es ≡ best
unfolding in_order seek
seek_past off at best [] h c = refl
seek_past off at best (e ∷ es) h c = seek_stays off best e es (omega (arith, (passed _ _ _ _ _ c).0))
