-- The measurement, proved: what it says stands in specs/Measure.antt.
use Prim.Native.Nat.{ℕ, zero, suc, max, ◌≤◌, ◌<◌}
use mathlib.Core.Path.{◌≡◌, refl, sym, ap, ◌∙◌}
use mathlib.Core.Logic.{◌⊎◌, inl, inr}
use mathlib.Core.List.{List}
use native.Mathlib.Omega.{arith}
use lib.ListN.{length}
use Rattle.error.specs.Answer.{Answer, Ok, Err, ◌>>=◌, number_of, if_eq}
use Rattle.error.specs.declared.Refusal.{Refusal}
use Rattle.error.specs.declared.Refusal.TheVariants.{BufferTooShort, TooLong}
use Rattle.error.proofs.Laws.{at_most_lem, above, other, le_cases, eq_cases, bound}
use Rattle.volume.specs.declared.Which.{Which}
use Rattle.demand.specs.Trace.{End, done, stop, Trace, says, text_or, within}
use Rattle.demand.specs.View.{View}
use Rattle.demand.specs.Listing.{levels, trace, listing}
use Rattle.demand.specs.Tree.{Tree, node, Entries, none, entry, depth_of, depth_in}
use Rattle.demand.specs.Shows.{heads, Shows, ShowsAll}
use Rattle.demand.specs.Demand.{view_at, listing_of}
use Rattle.demand.specs.Measure.{Measure, most, deepest_of, deepest, of_listing, measured, measure_of_part, measure_of, Deep, Measures}
use Rattle.demand.proofs.Shows.{within_done, trace_done}
use Rattle.demand.proofs.Back.{tree_one}
use Rattle.demand.proofs.Parts.{on_view, listing_of_view}

-- ---- the depth

mutual
  unfolding deepest

  pub tree_deep : (v : View) (t : Tree) (i d : ℕ) → Shows v i t → depth_of t < d → deepest v d i ≡ depth_of t
  tree_deep v (node f l c es) i zero p h = absurd (omega arith)
  tree_deep v (node f l c es) i (suc d) p h = rw (p.0.inode, p.0.entries) (entries_deep v es d p.1 (omega arith))

  pub entries_deep : (v : View) (es : Entries) (d : ℕ) → ShowsAll v es → depth_in es ≤ d → deepest_of (deepest v d) (heads es) ≡ depth_in es
  entries_deep v none d p h = refl
  entries_deep v (entry e t es) d p h =
      let a = tree_deep v t e.id d p.0 (omega arith) in
      let b = entries_deep v es d p.1 (omega arith) in
      λ j. max (suc (a j)) (b j)

-- ---- of a trace: a text in any room

module _ (t : Trace) where
  short : (room : ℕ) → room < length t.text → within room t ≡ Err BufferTooShort
  unfolding within
  short room h = sym (above _ _ _ _ _ h refl)

  enough : (room : ℕ) → length t.text ≤ room → within room t ≡ text_or t.text t.ended
  unfolding within
  enough room h = sym (at_most_lem _ _ _ _ _ h refl)

  -- a fault that is met in one room, and is no want of it, ended the trace; and it is met in any room that is not too short
  stops : (room : ℕ) (e : Refusal) → (number_of e ≡ 6 → ⊥) → within room t ≡ Err e → t.ended ≡ stop e
  unfolding within
  stops room e k =
      le_cases (λ (a : Answer (List ℕ)). a ≡ Err e → t.ended ≡ stop e) (λ h. of t.ended)
      (λ h q. let s : BufferTooShort ≡ e = cc in absurd (k (ap number_of (sym s))))
    where
      of : (x : End) → text_or t.text x ≡ Err e → x ≡ stop e
      of done q = let z : ◌≡◌ {A = ℕ} 0 1 = cc in absurd (omega arith)
      of (stop w) q = let s : w ≡ e = cc in ap stop s

  stopped : (room : ℕ) (e : Refusal) → t.ended ≡ stop e → (within room t ≡ Err e) ⊎ (within room t ≡ Err BufferTooShort)
  unfolding within
  stopped room e h = le_cases (λ (a : Answer (List ℕ)). (a ≡ Err e) ⊎ (a ≡ Err BufferTooShort)) (λ k. inl (ap (text_or t.text) h)) (λ k. inr refl)

-- ---- of a view

-- what is known where a measurement was got
record Told (t : Answer (List ℕ)) (depth : ℕ) (m : Measure) : Type 0 where
  text : List ℕ
  listed : t ≡ Ok text
  it : m ≡ record { length = length text; depth = depth }

told_got : (a : Answer (List ℕ)) (depth : ℕ) (m : Measure) → of_listing depth a ≡ Ok m → Told a depth m
told_got (Ok t) depth m = λ h. record { text = t; listed = refl; it = cc }
told_got (Err e) depth m =
    eq_cases (λ b. b ≡ Ok m → Told (Err e) depth m) (λ k h. let z : ◌≡◌ {A = ℕ} 0 1 = cc in absurd (omega arith)) (λ k h. let z : ◌≡◌ {A = ℕ} 0 1 = cc in absurd (omega arith))

told_no : (a : Answer (List ℕ)) (depth : ℕ) (e : Refusal) → (e ≡ TooLong → ⊥) → of_listing depth a ≡ Err e → (a ≡ Err e) × (number_of e ≡ 6 → ⊥)
told_no (Ok t) depth e k = λ h. let z : ◌≡◌ {A = ℕ} 0 1 = cc in absurd (omega arith)
told_no (Err w) depth e k =
    eq_cases (λ b. b ≡ Err e → (◌≡◌ {A = Answer (List ℕ)} (Err w) (Err e)) × (number_of e ≡ 6 → ⊥)) (λ s h. absurd (k (cc)))
    (λ s h. let q : w ≡ e = cc in (ap Err q, λ z. s (ap number_of q ∙ z)))

module _ (v : View) where
  by_listing : (a : Answer (List ℕ)) → within most (trace v) ≡ a → measured v ≡ of_listing (deepest v levels 2) a
  unfolding measured listing
  by_listing a h = ap (of_listing (deepest v levels 2)) h

  pub view_got : (m : Measure) → measured v ≡ Ok m → (t : List ℕ) × ((trace v ≡ says t) × (m ≡ record { length = length t; depth = deepest v levels 2 }))
  view_got m h = let a = told_got _ _ m (sym (by_listing _ refl) ∙ h) in (a.text, (within_done most (trace v) a.text a.listed, a.it))

  pub view_refused : (e : Refusal) → measured v ≡ Err e → (e ≡ TooLong → ⊥) → (room : ℕ) → (within room (trace v) ≡ Err e) ⊎ (within room (trace v) ≡ Err BufferTooShort)
  view_refused e h k room = let a = told_no _ _ e k (sym (by_listing _ refl) ∙ h) in stopped (trace v) room e (stops (trace v) most e a.1 a.0)

  pub view_long : most < length (trace v).text → measured v ≡ Err TooLong
  unfolding if_eq
  view_long h = by_listing _ (short (trace v) most h)

  pub view_fault : (e : Refusal) → length (trace v).text ≤ most → (trace v).ended ≡ stop e → (number_of e ≡ 6 → ⊥) → measured v ≡ Err e
  view_fault e k h s = by_listing (Err e) (enough (trace v) most k ∙ ap (text_or (trace v).text) h) ∙ sym (other _ _ _ _ _ s refl)

  pub view_listed : (t : List ℕ) → trace v ≡ says t → length t ≤ most → measured v ≡ Ok (record { length = length t; depth = deepest v levels 2 })
  view_listed t h k = by_listing (Ok t) (ap (within most) h ∙ enough (says t) most k)

  pub view_deep : (m : Measure) → measured v ≡ Ok m → Deep v m.depth
  view_deep m h =
      let a = view_got m h in
      let l = trace_done v a.1.0 in
      let e : m.depth ≡ depth_of l.tree = ap (λ x. x.depth) a.1.1 ∙ tree_deep v l.tree 2 levels l.shows l.low in
      record { tree = l.tree; shows = l.shows; only = λ t p. tree_one v t l.tree 2 p l.shows; greatest = e; no_deeper = omega arith }

-- ---- of an image

module _ (image : List ℕ) (w : Which) where
  pub measure_of_view : measure_of image w ≡ (view_at image w >>= measured)
  unfolding measure_of measure_of_part
  measure_of_view = on_view image w measured (λ p. measure_of_part p w) (λ p. refl)

  pub listing_of_trace : (room : ℕ) → listing_of image w room ≡ (view_at image w >>= λ v. within room (trace v))
  unfolding listing
  listing_of_trace room = listing_of_view image w room

  module _ (v : View) (h : view_at image w ≡ Ok v) where
    its_measure : measure_of image w ≡ measured v
    its_measure = measure_of_view ∙ ap (◌>>= measured) h

    its_listing : (room : ℕ) → listing_of image w room ≡ within room (trace v)
    its_listing room = listing_of_trace room ∙ ap (◌>>= λ v. within room (trace v)) h

  -- a measurement, and a listing, that was got: the volume was opened
  from_measure : (m : Measure) → measure_of image w ≡ Ok m → (v : View) × ((view_at image w ≡ Ok v) × (measured v ≡ Ok m))
  from_measure m h = bound (view_at image w) measured m (sym measure_of_view ∙ h)

  from_listing : (room : ℕ) (t : List ℕ) → listing_of image w room ≡ Ok t → (v : View) × ((view_at image w ≡ Ok v) × (trace v ≡ says t))
  from_listing room t h =
      let b = bound (view_at image w) (λ v. within room (trace v)) t (sym (listing_of_trace room) ∙ h) in
      (b.0, (b.1.0, within_done room (trace b.0) t b.1.1))

  refused_either : (e : Refusal) → measure_of image w ≡ Err e → (e ≡ TooLong → ⊥)
      → (room : ℕ) → (listing_of image w room ≡ Err e) ⊎ (listing_of image w room ≡ Err BufferTooShort)
  refused_either e h k room = rw (listing_of_trace room) (of (view_at image w) (sym measure_of_view ∙ h))
    where
      of : (a : Answer View) → (a >>= measured) ≡ Err e → ((a >>= λ v. within room (trace v)) ≡ Err e) ⊎ ((a >>= λ v. within room (trace v)) ≡ Err BufferTooShort)
      of (Ok v) q = view_refused v e q k room
      of (Err d) q = let s : d ≡ e = cc in inl (ap Err s)

pub measures : Measures
measures = record {
  measured_lists = λ image w m h.
      let b = from_measure image w m h in
      let a = view_got b.0 m b.1.1 in
      let t = a.0 in
      let n : m.length ≡ length t = ap (λ x. x.length) a.1.1 in
      let its : (room : ℕ) → listing_of image w room ≡ within room (says t) = λ room. its_listing image w b.0 b.1.0 room ∙ ap (within room) a.1.0 in
      record {
        text = t;
        long = sym n;
        enough = λ room k. its room ∙ enough (says t) room (omega arith);
        short = λ room k. its room ∙ short (says t) room (omega arith);
      };
  measured_refused = refused_either;
  listed_measured = λ image w room t h k.
      let b = from_listing image w room t h in
      (record { length = length t; depth = deepest b.0 levels 2 }, (its_measure image w b.0 b.1.0 ∙ view_listed b.0 t b.1.1 k, refl));
  listed_long = λ image w room t h k.
      let b = from_listing image w room t h in
      its_measure image w b.0 b.1.0 ∙ view_long b.0 (rw b.1.1 k);
  measured_long = λ image w v h k.
      (its_measure image w v h ∙ view_long v k, λ room l. its_listing image w v h room ∙ short (trace v) room (omega arith));
  measured_fault = λ image w v e h k q s. its_measure image w v h ∙ view_fault v e k q s;
  measured_depth = λ image w m h.
      let b = from_measure image w m h in
      (b.0, (b.1.0, view_deep b.0 m b.1.1));
}
