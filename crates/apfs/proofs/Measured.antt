-- What `apfs_measure` says of `apfs_list`: the statement stands in specs/Measured.antt.
use Prim.Native.Nat.{ℕ, ◌≤◌, ◌<◌}
use mathlib.Core.Path.{◌≡◌, refl, sym, ap, subst, ◌∙◌}
use mathlib.Core.Logic.{◌⊎◌, inl, inr, ⊎_elim}
use mathlib.Core.List.{List, [], ◌++◌}
use lib.IntN.{pos}
use lib.ListN.{length, drop, replicate}
use Rattle.error.specs.Answer.{Answer, Ok, Err, ◌>>=◌, number_of}
use Rattle.error.specs.declared.Refusal.{Refusal}
use Rattle.error.specs.declared.Refusal.TheVariants.{BufferTooShort, TooLong}
use native.Mathlib.Omega.{arith}
use Rattle.error.proofs.Laws.{at_most_lem, above, bound}
use Rattle.extents.proofs.Verdicts.{le_or_gt}
use Rattle.volume.specs.declared.Which.{Which}
use Rattle.calls.specs.Filled.{Filled, filled, filled_by}
use Rattle.demand.specs.View.{View}
use Rattle.demand.specs.Demand.{view_of_part, view_at, listing_of}
use Rattle.demand.specs.Trace.{within}
use Rattle.demand.specs.Listing.{trace}
use Rattle.demand.specs.Measure.{Measure, most, measured, measure_of}
use Rattle.demand.proofs.Parts.{on_view}
use Rattle.demand.proofs.Measure.{measure_of_view, listing_of_trace, measures}
use Rattle.listing.specs.Listed.{listed_of}
use Rattle.measure.specs.Line.{numbers_line, measure_line, volume_text, measure_counted, measure_text}
use Rattle.results.specs.Call.{minus, number, result_of, buffer_of}
use Rattle.apfs.specs.Opened.{Refused}
use Rattle.results.proofs.Listings.{within_room}
use Rattle.apfs.specs.Measured.{measuring, list_result, list_buffer, Lists, Goes, GivesMeasure, told, too_short, refused, ApfsMeasured}

module _ (image : List ℕ) (w : Which) where
  line_of : measuring image w ≡ (measure_of image w >>= λ m. Ok (measure_line m []))
  unfolding measure_counted volume_text
  line_of =
      on_view image w volume_text (λ p. measure_text p w) (λ p. refl) ∙ of (view_at image w)
      ∙ ap (λ (a : Answer Measure). a >>= λ m. Ok (measure_line m [])) (sym (measure_of_view image w))
    where
      of : (a : Answer View) → (a >>= λ v. measured v >>= λ m. Ok (measure_line m [])) ≡ ((a >>= measured) >>= λ m. Ok (measure_line m []))
      of (Ok v) = refl
      of (Err e) = refl

  as_listed : (b : List ℕ) (a : Answer (List ℕ)) → listing_of image w (length b) ≡ a → (list_result image w b ≡ number (listed_of a b).answer) × (list_buffer image w b ≡ (listed_of a b).buffer)
  as_listed b a h = (ap (λ (x : Answer (List ℕ)). number (listed_of x b).answer) h, ap (λ (x : Answer (List ℕ)). (listed_of x b).buffer) h)

  no_other : {A : Type 0} {m : Measure} {e : Refusal} → measure_of image w ≡ Ok m → measure_of image w ≡ Err e → A
  no_other h k = absurd (let z : ◌≡◌ {A = ℕ} 0 1 = cc in omega arith)

  -- a listing has room in its buffer
  has_room : (room : ℕ) (t : List ℕ) → listing_of image w room ≡ Ok t → length t ≤ room
  has_room room t h =
      let a = bound (view_at image w) (λ v. within room (trace v)) t (sym (listing_of_trace image w room) ∙ h) in
      within_room room (trace a.0) t a.1.1

  lists : (m : Measure) → measure_of image w ≡ Ok m → Lists image w m.length
  lists m h =
      let l = measures.measured_lists image w m h in
      record {
        text = l.text;
        long = l.long;
        bounded = ⊎_elim (λ k. k) (λ k. no_other (h) (measures.listed_long image w m.length l.text (l.enough m.length (omega arith)) (rw l.long k))) (le_or_gt m.length most);
        enough = λ b k. let a = as_listed b (Ok l.text) (l.enough (length b) k) in (a.0 ∙ ap pos l.long, a.1 ∙ ap (λ (n : ℕ). l.text ++ drop n b) l.long);
        short = λ b k. as_listed b (Err BufferTooShort) (l.short (length b) k);
      }

  goes : (m : Measure) → measure_of image w ≡ Ok m → Goes image w m.depth
  goes m h = let a = measures.measured_depth image w m h in record { it = a.0; opened = a.1.0; deep = a.1.1 }

  by_line : (m : Measure) (out : List ℕ) → measure_of image w ≡ Ok m → GivesMeasure image w out (result_of (Ok (measure_line m [])) out) (buffer_of (Ok (measure_line m [])) out)
  unfolding filled
  by_line m out h = of (le_or_gt (length (measure_line m [])) (length out))
    where
      of : (length (measure_line m []) ≤ length out) ⊎ (length out < length (measure_line m [])) → GivesMeasure image w out (result_of (Ok (measure_line m [])) out) (buffer_of (Ok (measure_line m [])) out)
      of (inl k) =
          let e : filled_by (Ok (measure_line m [])) out ≡ record { answer = Ok (length (measure_line m [])); buffer = measure_line m [] ++ drop (length (measure_line m [])) out } = sym (at_most_lem _ _ _ _ _ k refl) in
          told m.length m.depth (lists m h) (goes m h) (ap (λ (f : Filled). number f.answer) e) (ap (λ (f : Filled). f.buffer) e)
      of (inr k) =
          let e : filled_by (Ok (measure_line m [])) out ≡ record { answer = Err BufferTooShort; buffer = out } = sym (above _ _ _ _ _ k refl) in
          too_short m.length m.depth (lists m h) (goes m h) k (ap (λ (f : Filled). number f.answer) e, ap (λ (f : Filled). f.buffer) e)

  by_refusal : (e : Refusal) (out : List ℕ) → measure_of image w ≡ Err e → GivesMeasure image w out (minus (number_of e)) out
  by_refusal e out h =
      refused e (refl, refl)
      (λ k b. ⊎_elim (λ q. inl (as_listed b (Err e) q).0) (λ q. inr (as_listed b (Err BufferTooShort) q).0) (measures.measured_refused image w e h k (length b)))
      (λ b k. of b k (listing_of image w (length b)) refl)
    where
      of : (b : List ℕ) → length b ≤ most → (a : Answer (List ℕ)) → listing_of image w (length b) ≡ a → (x : Refusal) × (list_result image w b ≡ minus (number_of x))
      of b k (Ok t) q = no_other (measures.listed_measured image w (length b) t q (omega (arith, has_room (length b) t q))).1.0 h
      of b k (Err x) q = (x, (as_listed b (Err x) q).0)

pub apfs_measured : ApfsMeasured
apfs_measured image w out = subst (λ (a : Answer (List ℕ)). GivesMeasure image w out (result_of a out) (buffer_of a out)) (sym (line_of image w)) (of (measure_of image w) refl)
  where
    of : (a : Answer Measure) → measure_of image w ≡ a → GivesMeasure image w out (result_of (a >>= λ m. Ok (measure_line m [])) out) (buffer_of (a >>= λ m. Ok (measure_line m [])) out)
    of (Ok m) h = by_line image w m out h
    of (Err e) h = by_refusal image w e out h
