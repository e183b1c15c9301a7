-- The writers over no buffer, and the measurement.
use Prim.Native.Nat.{ℕ, ◌-◌, ◌^◌, ◌≤◌, ◌<◌}
use mathlib.Core.Path.{◌≡◌, refl, sym, ap, subst, ◌∙◌}
use mathlib.Core.List.{List, [], ◌∷◌}
use mathlib.Core.Logic.{◌⊎◌, inl, inr}
use native.Mathlib.Omega.{arith}
use borrow.Author.Rules.{rules}
use lib.ListN.{length}
use Rattle.error.specs.Answer.{Answer, Ok, Err, number_of, if_le}
use Rattle.error.specs.declared.Refusal.{Refusal}
use Rattle.error.specs.declared.Refusal.TheVariants.{BufferTooShort, TooLong}
use Rattle.error.proofs.Laws.{at_most_lem, above, same_by, other_by}
use Rattle.extents.proofs.Verdicts.{le_or_gt}
use Rattle.totals.specs.declared.Totals.{Totals}
use Rattle.totals.specs.Totals.{counts, totals_of}
use Rattle.text.specs.Output.{Output, at, refused, output_of, puts}
use Rattle.text.proofs.Whole as text-whole
use Rattle.volume.specs.declared.Volume.{Volume}
use Rattle.tally.specs.declared.counts.Tally.{Tally}
use Rattle.tally.specs.Weight.{Weight, tally_told, cap, capped, weight}
use Rattle.demand.specs.Trace.{End, done, stop, Trace, says, text_or, within}
use Rattle.demand.specs.Listing.{levels, foot_lines, footed, trace, listing}
use Rattle.demand.specs.Tree.{tree_totals, depth_of}
use Rattle.demand.specs.Demand.{view_of, label_shown}
use Rattle.demand.specs.Measure.{Measure, most, deepest, of_listing, measured}
use Rattle.demand.proofs.Shows.{Body, body_done}
use Rattle.demand.proofs.TreeTotals.{totals_tree}
use Rattle.demand.proofs.Whole.{totals_few}
use Rattle.demand.proofs.Measure.{tree_deep}
use Rattle.forms.specs.Inner.{ending, run}
use Rattle.forms.proofs.Running.{run_says, run_refused, run_then}
use Rattle.listing.specs.Inner.{body_of}
use Rattle.measure.specs.declared.gauge.Measured.{Measured}
use Rattle.measure.specs.Line.{measured_told}
use Rattle.measure.proofs.Shown.{shown_weight}

-- ---- a refusal

pub too_long : (e : Refusal) (n : ℕ) → n ≡ number_of e → n ≡ 6 → ◌≡◌ {A = Answer Measure} (Err TooLong) (of_listing 0 (Err e))
too_long e n p q = same_by _ _ _ _ _ n p q refl

pub as_it_is : (e : Refusal) (n : ℕ) → n ≡ number_of e → (n ≡ 6 → ⊥) → ◌≡◌ {A = Answer Measure} (Err e) (of_listing 0 (Err e))
as_it_is e n p q = other_by _ _ _ _ _ n p q refl

-- ---- a trace over no buffer

module _ (room : ℕ) (t : Trace) where
  gauged : run room t (at [] 0) ≡ ending t.ended (if_le (length t.text) room (at [] (length t.text)) (refused BufferTooShort))
  unfolding run
  gauged = ap (ending t.ended) (text-whole.measured room t.text)

  record Gauged (l : List ℕ) (n : ℕ) : Type 0 where
    ends : t.ended ≡ done
    long : n ≡ length t.text
    fits : length t.text ≤ room
    none : l ≡ []

  gauged_at : (l : List ℕ) (n : ℕ) → run room t (at [] 0) ≡ at l n → Gauged l n
  gauged_at l n h = of (le_or_gt (length t.text) room) t.ended refl (sym h ∙ gauged)
    where
      of : (length t.text ≤ room) ⊎ (room < length t.text) → (e : End) → t.ended ≡ e → at l n ≡ ending e (if_le (length t.text) room (at [] (length t.text)) (refused BufferTooShort)) → Gauged l n
      of (inl k) done p w =
          let a : at l n ≡ at [] (length t.text) = w ∙ sym (at_most_lem _ _ _ _ _ k refl) in
          record { ends = p; long = cc; fits = k; none = cc }
      of (inl k) (stop e) p w =
          let a : at l n ≡ refused e = w ∙ ap (ending (stop e)) (sym (at_most_lem _ _ _ _ _ k refl)) in
          absurd (let z : ◌≡◌ {A = ℕ} 0 1 = cc in omega arith)
      of (inr k) done p w =
          let a : at l n ≡ refused BufferTooShort = w ∙ sym (above _ _ _ _ _ k refl) in
          absurd (let z : ◌≡◌ {A = ℕ} 0 1 = cc in omega arith)
      of (inr k) (stop e) p w =
          let a : at l n ≡ refused BufferTooShort = w ∙ ap (ending (stop e)) (sym (above _ _ _ _ _ k refl)) in
          absurd (let z : ◌≡◌ {A = ℕ} 0 1 = cc in omega arith)

  within_at : (l : List ℕ) (n : ℕ) → run room t (at [] 0) ≡ at l n → within room t ≡ Ok t.text
  unfolding within
  within_at l n h = let g = gauged_at l n h in sym (at_most_lem _ _ _ _ _ g.fits refl) ∙ ap (text_or t.text) g.ends

  within_no : (e : Refusal) → run room t (at [] 0) ≡ refused e → within room t ≡ Err e
  unfolding within
  within_no e h = of (le_or_gt (length t.text) room) t.ended refl (sym h ∙ gauged)
    where
      of : (length t.text ≤ room) ⊎ (room < length t.text) → (x : End) → t.ended ≡ x → refused e ≡ ending x (if_le (length t.text) room (at [] (length t.text)) (refused BufferTooShort))
          → if_le (length t.text) room (text_or t.text t.ended) (Err BufferTooShort) ≡ Err e
      of (inl k) done p w =
          let a : refused e ≡ at [] (length t.text) = w ∙ sym (at_most_lem _ _ _ _ _ k refl) in
          absurd (let z : ◌≡◌ {A = ℕ} 0 1 = cc in omega arith)
      of (inl k) (stop x) p w =
          let a : refused e ≡ refused x = w ∙ ap (ending (stop x)) (sym (at_most_lem _ _ _ _ _ k refl)) in
          let m : x ≡ e = cc in
          sym (at_most_lem _ _ _ _ _ k refl) ∙ ap (text_or t.text) p ∙ ap Err m
      of (inr k) done p w =
          let a : refused e ≡ refused BufferTooShort = w ∙ sym (above _ _ _ _ _ k refl) in
          let m : BufferTooShort ≡ e = cc in
          sym (above _ _ _ _ _ k refl) ∙ ap Err m
      of (inr k) (stop x) p w =
          let a : refused e ≡ refused BufferTooShort = w ∙ ap (ending (stop x)) (sym (above _ _ _ _ _ k refl)) in
          let m : BufferTooShort ≡ e = cc in
          sym (above _ _ _ _ _ k refl) ∙ ap Err m

-- ---- of a volume

module _ (b : List ℕ) (v : Volume) where
  by_trace : (a : Answer (List ℕ)) → within most (trace (view_of b v)) ≡ a → measured (view_of b v) ≡ of_listing (deepest (view_of b v) levels 2) a
  unfolding measured listing
  by_trace a h = ap (of_listing (deepest (view_of b v) levels 2)) h

  trace_run : run most (trace (view_of b v)) (at [] 0) ≡ run most (says (foot_lines (totals_of (body_of b v).text))) (run most (body_of b v) (at [] 0))
  unfolding trace footed
  trace_run = run_then most (body_of b v) _ (at [] 0)

  -- what was tallied, where the body was written to its end
  record Tallied (t : Tally) : Type 0 where
    totals : counts t.nodes t.bytes t.attrs ≡ totals_of (body_of b v).text
    depth : t.below ≡ deepest (view_of b v) levels 2

  small : (n : ℕ) → n ≤ most → cap n ≡ n
  small n h = omega arith

  tallied : (t : Tally) (l : List ℕ) (n : ℕ) → tally_told t ≡ capped (weight b v levels 2) → run most (body_of b v) (at [] 0) ≡ at l n → Tallied t
  tallied t l n h r =
      let g = gauged_at most (body_of b v) l n r in
      let k = body_done (view_of b v) {s = (body_of b v).text} (λ i. record { text = (body_of b v).text; ended = g.ends i }) in
      let w = shown_weight b v k.tree 2 levels k.shows k.low in
      let s : totals_of (body_of b v).text ≡ tree_totals k.tree = ap totals_of k.text ∙ totals_tree _ _ _ k.tree in
      let few = totals_few (body_of b v).text in
      let e : tally_told t ≡ capped (record { totals = totals_of (body_of b v).text; below = depth_of k.tree }) = h ∙ ap capped (w ∙ ap (λ (x : Totals). record { totals = x; below = depth_of k.tree }) (sym s)) in
      let a = small (totals_of (body_of b v).text).nodes (omega (arith, few.nodes, g.fits)) in
      let c = small (totals_of (body_of b v).text).bytes (omega (arith, few.bytes, g.fits)) in
      let d = small (totals_of (body_of b v).text).attrs (omega (arith, few.attrs, g.fits)) in
      let f = small (depth_of k.tree) (omega (arith, k.low)) in
      record {
        totals = ap (λ (x : Weight). x.totals) e ∙ (λ i. counts (a i) (c i) (d i));
        depth = ap (λ (x : Weight). x.below) e ∙ f ∙ sym (tree_deep (view_of b v) k.tree 2 levels k.shows k.low);
      }

  module _ (none c : List ℕ) (p : Answer ℕ) (y : length none ≡ 0) (h : output_of p c ≡ run most (body_of b v) (at none 0)) where
    body_run : output_of p c ≡ run most (body_of b v) (at [] 0)
    body_run = of none y h
      where
        of : (x : List ℕ) → length x ≡ 0 → output_of p c ≡ run most (body_of b v) (at x 0) → output_of p c ≡ run most (body_of b v) (at [] 0)
        of [] k g = g
        of (z ∷ x) k g = absurd (omega arith)

    pub measured_body : (e : Refusal) (z : Answer Measured) → p ≡ Err e → measured_told z ≡ of_listing 0 (Err e) → measured_told z ≡ measured (view_of b v)
    measured_body e z q g =
        let r : run most (body_of b v) (at [] 0) ≡ refused e = sym body_run ∙ ap (λ (x : Answer ℕ). output_of x c) q in
        let u : run most (trace (view_of b v)) (at [] 0) ≡ refused e = trace_run ∙ ap (run most _) r ∙ run_refused most _ e in
        g ∙ sym (by_trace (Err e) (within_no most (trace (view_of b v)) e u))

    module _ (n : ℕ) (q : p ≡ Ok n) (t : Tally) (m : ℕ) (i : m ≡ levels) (k : tally_told t ≡ capped (weight b v m 2)) (o : Answer ℕ) (d : List ℕ)
        (g : output_of o d ≡ puts most (foot_lines (counts t.nodes t.bytes t.attrs)) (output_of p c)) where
      as_at : run most (body_of b v) (at [] 0) ≡ at c n
      as_at = sym body_run ∙ ap (λ (x : Answer ℕ). output_of x c) q

      its : Tallied t
      its = tallied t c n (rw i at k) as_at

      whole : output_of o d ≡ run most (trace (view_of b v)) (at [] 0)
      whole =
          g ∙ ap (λ (x : Totals). puts most (foot_lines x) (output_of p c)) its.totals
          ∙ run_says most (foot_lines (totals_of (body_of b v).text)) (output_of p c) _ refl
          ∙ ap (run most (says (foot_lines (totals_of (body_of b v).text)))) body_run ∙ sym trace_run

      pub measured_got : (j : ℕ) → o ≡ Ok j → ◌≡◌ {A = Answer Measure} (Ok (record { length = j; depth = t.below })) (measured (view_of b v))
      measured_got j s =
          let r : run most (trace (view_of b v)) (at [] 0) ≡ at d j = sym whole ∙ ap (λ (x : Answer ℕ). output_of x d) s in
          let l = gauged_at most (trace (view_of b v)) d j r in
          (λ x. Ok (record { length = l.long x; depth = its.depth x })) ∙ sym (by_trace (Ok _) (within_at most (trace (view_of b v)) d j r))

      pub measured_foot : (e : Refusal) (z : Answer Measured) → o ≡ Err e → measured_told z ≡ of_listing 0 (Err e) → measured_told z ≡ measured (view_of b v)
      measured_foot e z s f =
          let r : run most (trace (view_of b v)) (at [] 0) ≡ refused e = sym whole ∙ ap (λ (x : Answer ℕ). output_of x d) s in
          f ∙ sym (by_trace (Err e) (within_no most (trace (view_of b v)) e r))

pub ruleset gauging = (rules, too_long, as_it_is, measured_body, measured_got, measured_foot)
