-- How the call goes on from the entry at its place.
use Prim.Native.Nat.{ℕ, zero, suc, ◌≤◌, ◌<◌}
use mathlib.Core.Path.{◌≡◌, refl, sym, ap, ◌∙◌}
use mathlib.Core.List.{List, [], ◌∷◌, ◌++◌}
use Rattle.std.specs.Prelude.{Option}
use mathlib.Core.Logic.{◌⊎◌, inl, inr}
use native.Mathlib.Omega.{arith}
use borrow.Author.Rules.{rules}
use lib.ListN.{length, drop}
use lib.Seq.{drop-nil}
use Rattle.error.specs.Answer.{Answer, Ok, Err, if_le}
use Rattle.error.specs.declared.Refusal.{Refusal}
use Rattle.error.specs.declared.Refusal.TheVariants.{BufferTooShort}
use Rattle.error.proofs.Laws.{at_most_lem, above}
use Rattle.lookup.specs.declared.counted.Counted.{Counted}
use Rattle.lookup.specs.Counted.{after, onto}
use Rattle.text.specs.Output.{at, output_of, puts}
use Rattle.text.proofs.Whole.{too_short, long_enough}
use Rattle.obj.specs.declared.reader.Reader.{Reader}
use Rattle.btree.specs.Scan.{Run, scan_of}
use Rattle.btree.specs.declared.entries.Search.{Search}
use Rattle.cursor.specs.Left.{run_at, Begins}
use Rattle.cursor.specs.declared.steps.Step.{Step}
use Rattle.volume.specs.declared.Volume.{Volume}
use Rattle.volume.specs.Rule.{hashed_keys}
use Rattle.records.specs.Directory.{entry_at}
use Rattle.records.specs.declared.directory.Entry.{Entry}
use Rattle.lists.specs.Lists.{search_of, list_of, element_at, placed, entries_of}
use Rattle.extents.proofs.Verdicts.{le_or_gt}
use Rattle.lists.specs.Inner.{readable}
use Rattle.lists.proofs.Reading.{listed}
use Rattle.lines.specs.Shown.{entry_shown}
use Rattle.lines.specs.Lines.{entry_line}
use Rattle.calls.specs.Filled.{Filled, filled, filled_by, filled_at, Answered, answered}
use Rattle.calls.proofs.Filling.{filled_nothing}
use Rattle.calls.proofs.Steps as call
use Rattle.entry_lines.specs.Entries.{lines_of, fitting, fitting_some, entries_on}
use Rattle.entry_lines.specs.Inner.{entries_from}
use Rattle.entry_lines.proofs.Fitting.{fitting_written}
use Rattle.std.specs.Prelude.{None, Some}

-- the first line is measured over l, which has no byte
module _ (rd : Reader) (image : List ℕ) (e : Entry) (es : List Entry) (b l : List ℕ) (r : Answer ℕ) (k : length l ≡ 0)
    (h : output_of r l ≡ puts (length b) (entry_line (entry_shown rd image e) []) (at [] 0)) where
  pub first_short : (w : Refusal) → r ≡ Err w → filled_at (Err w) (l ++ b) ≡ entries_from rd image e es b
  unfolding entries_from
  first_short w q =
      let s = too_short (entry_line (entry_shown rd image e) []) b r l h w q in
      above _ _ _ _ _ s.0 (of l k s.1)
    where
      of : (m : List ℕ) → length m ≡ 0 → w ≡ BufferTooShort → filled_at (Err w) (m ++ b) ≡ record { answer = Err BufferTooShort; buffer = b }
      of [] z d = rw d
      of (x ∷ m) z d = absurd (omega arith)

  pub first_fits : (u n : ℕ) (x : List ℕ) → r ≡ Ok u → at x n ≡ puts (length b) (fitting (length b) (lines_of rd image es)) (at (l ++ b) 0) → filled_at (Ok n) x ≡ entries_from rd image e es b
  unfolding entries_from
  first_fits u n x q d = at_most_lem _ _ _ _ _ (long_enough (entry_line (entry_shown rd image e) []) b r l h u q).0 (fitting_written (lines_of rd image es) b l x n k d)

-- the entries from a place on, by the one at that place
drop_past : {A : Type 0} (k : ℕ) (xs : List A) → element_at k xs ≡ None → drop k xs ≡ []
unfolding element_at
drop_past k [] h = drop-nil k
drop_past zero (x ∷ xs) h = absurd (let z : ◌≡◌ {A = ℕ} 0 1 = cc in omega arith)
drop_past (suc k) (x ∷ xs) h = drop_past k xs h

drop_at : {A : Type 0} (k : ℕ) (xs : List A) (x : A) → element_at k xs ≡ Some x → (ys : List A) × (drop k xs ≡ x ∷ ys)
unfolding element_at
drop_at k [] x h = absurd (let z : ◌≡◌ {A = ℕ} 0 1 = cc in omega arith)
drop_at zero (y ∷ xs) x h = (xs, let q : y ≡ x = cc in rw q)
drop_at (suc k) (y ∷ xs) x h = drop_at k xs x h

-- the entries are those from the first step on
module _ (image : List ℕ) (v : Volume) (id place s : ℕ) (b : List ℕ) (q₀ : Search) (t₀ : Step) (k₀ : q₀ ≡ search_of v id 9) (g₀ : Begins image q₀ t₀ (scan_of image q₀ s)) (f : Counted (Option Entry))
    (p : f ≡ placed place (list_of (entry_at (hashed_keys v) v.reader image) (run_at image (search_of v id 9) t₀ t₀.from))) where
  begun : run_at image (search_of v id 9) t₀ t₀.from ≡ scan_of image (search_of v id 9) s
  begun = rw k₀ at g₀.run

  abbrev by : Answer (List Entry) → Answered
  by a = answered (onto (after (entries_of image v id s).nodes a) λ es t. after t (fitting_some (length b) (lines_of v.reader image (drop place es)))) b

  abbrev at_place : Answer (List Entry) → Counted (Option Entry)
  at_place a = placed place (after (entries_of image v id s).nodes a)

  found : f ≡ at_place (entries_of image v id s).answer
  unfolding entries_of
  found = p ∙ ap (λ (r : Run). placed place (list_of (entry_at (hashed_keys v) v.reader image) r)) begun

  told : (x : Answer (Option Entry)) → f.answer ≡ x → x ≡ (at_place (entries_of image v id s).answer).answer
  told x q = (sym q) ∙ ap (λ (c : Counted (Option Entry)). c.answer) found

  counted : f.nodes ≡ (entries_of image v id s).nodes
  counted = ap (λ (c : Counted (Option Entry)). c.nodes) found ∙ of (entries_of image v id s).answer
    where
      of : (a : Answer (List Entry)) → (at_place a).nodes ≡ (entries_of image v id s).nodes
      of (Ok es) = refl
      of (Err w) = refl

  pub entries_past : f.answer ≡ (Ok None) → record { nodes = f.nodes; result = filled_at (Ok 0) b } ≡ answered (entries_on image v id place (length b) s) b
  unfolding entries_on fitting_some
  entries_past q = rw counted (of (entries_of image v id s).answer (told _ q))
    where
      of : (a : Answer (List Entry)) → Ok None ≡ (at_place a).answer → record { nodes = (entries_of image v id s).nodes; result = filled_at (Ok 0) b } ≡ by a
      of (Ok es) h = let d : element_at place es ≡ None = cc in rw (drop_past place es d) (call.with_nodes _ _ _ (filled_nothing b))
      of (Err w) h = absurd (let z : ◌≡◌ {A = ℕ} 0 1 = cc in omega arith)

  pub entries_refused : (w : Refusal) → f.answer ≡ Err w → record { nodes = f.nodes; result = filled_at (Err w) b } ≡ answered (entries_on image v id place (length b) s) b
  unfolding entries_on
  entries_refused w q = rw counted (of (entries_of image v id s).answer (told _ q))
    where
      of : (a : Answer (List Entry)) → Err w ≡ (at_place a).answer → record { nodes = (entries_of image v id s).nodes; result = filled_at (Err w) b } ≡ by a
      of (Ok es) h = absurd (let z : ◌≡◌ {A = ℕ} 0 1 = cc in omega arith)
      of (Err x) h = let d : w ≡ x = cc in rw d

  pub entries_here : (e : Entry) (z : Filled) → f.answer ≡ Ok (Some e)
      → z ≡ entries_from v.reader image e (drop place (readable (entry_at (hashed_keys v) v.reader image) (run_at image (search_of v id 9) t₀ t₀.from))) b → record { nodes = f.nodes; result = z } ≡ answered (entries_on image v id place (length b) s) b
  unfolding entries_on entries_of entries_from fitting_some
  entries_here e z q h = rw counted (of (entries_of image v id s).answer refl (told _ q))
    where
      line : List ℕ
      line = entry_line (entry_shown v.reader image e) []

      -- both go by whether the first line fits
      both : (es : List Entry) → entries_from v.reader image e (e ∷ es) b ≡ filled_by (fitting_some (length b) (line ∷ lines_of v.reader image es)) b
      both es = of (le_or_gt (length line) (length b))
        where
          t : List ℕ
          t = fitting (length b) (line ∷ lines_of v.reader image es)

          of : (length line ≤ length b) ⊎ (length b < length line)
              → if_le (length line) (length b) (filled t b) (record { answer = Err BufferTooShort; buffer = b }) ≡ filled_by (if_le (length line) (length b) (Ok t) (Err BufferTooShort)) b
          of (inl d) = rw (← at_most_lem (length line) (length b) (Ok t) (Err BufferTooShort) (Ok t) d refl) (sym (at_most_lem _ _ _ _ _ d refl))
          of (inr d) = rw (← above (length line) (length b) (Ok t) (Err BufferTooShort) (Err BufferTooShort) d refl) (sym (above _ _ _ _ _ d refl))

      of : (a : Answer (List Entry)) → (entries_of image v id s).answer ≡ a → Ok (Some e) ≡ (at_place a).answer → record { nodes = (entries_of image v id s).nodes; result = z } ≡ by a
      of (Ok es) k g =
          let d : element_at place es ≡ Some e = cc in
          let y = drop_at place es e d in
          let u : readable (entry_at (hashed_keys v) v.reader image) (run_at image (search_of v id 9) t₀ t₀.from) ≡ es = ap (readable (entry_at (hashed_keys v) v.reader image)) begun ∙ listed (entry_at (hashed_keys v) v.reader image) (scan_of image (search_of v id 9) s) es k in
          call.with_nodes _ _ _ (h ∙ rw (u, y.1) (both y.0))
      of (Err w) k g = absurd (let z : ◌≡◌ {A = ℕ} 0 1 = cc in omega arith)

pub ruleset firsts = (rules, first_short, first_fits)

pub ruleset onward = (call.onward, entries_past, entries_refused, entries_here)
