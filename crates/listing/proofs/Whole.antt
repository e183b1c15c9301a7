-- The whole listing, and what it leaves of the buffer.
use Prim.Native.Nat.{ℕ, ◌≤◌, ◌<◌}
use mathlib.Core.Path.{◌≡◌, refl, sym, ap, ◌∙◌}
use mathlib.Core.List.{List, [], ◌++◌}
use mathlib.Core.Logic.{◌⊎◌, inl, inr}
use native.Mathlib.Omega.{arith}
use borrow.Author.Rules.{rules}
use lib.ListN.{length, take, drop, replicate, length-append}
use lib.Seq.{length-take-le, take-append_seam}
use Rattle.error.specs.Answer.{Answer, Ok, Err, ◌>>=◌}
use Rattle.error.specs.declared.Refusal.{Refusal}
use Rattle.error.specs.declared.Refusal.TheVariants.{BufferTooShort}
use Rattle.error.proofs.Laws.{at_most_lem, above}
use Rattle.utf8.specs.Text.{lossy}
use Rattle.text.specs.Output.{Output, at, refused, output_of, puts}
use Rattle.text.specs.Words.{ascii}
use Rattle.text.proofs.Writing.{then}
use Rattle.text.proofs.Whole.{whole, whole_written}
use Rattle.lookup.specs.declared.counted.Counted.{Counted}
use Rattle.lookup.specs.Counted.{onto}
use Rattle.volume.specs.Open.{volume_of_image}
use Rattle.volume.specs.declared.Volume.{Volume}
use Rattle.volume.specs.declared.Which.{Which}
use Rattle.label.specs.Label.{label_of}
use Rattle.lists.specs.Lists.{root_id}
use Rattle.volume.specs.Rule.{rule_of}
use Rattle.volume.specs.declared.rule.NameRule.{NameRule}
use Rattle.extents.proofs.Verdicts.{le_or_gt}
use Rattle.lines.specs.Lines.{volume_line, total_line, close}
use Rattle.lines.proofs.After.{total_append}
use Rattle.totals.specs.declared.Totals.{Totals}
use Rattle.totals.specs.Totals.{totals_of}
use Rattle.calls.specs.Filled.{Filled, filled_at, Answered, called_by}
use Rattle.demand.specs.Trace.{End, done, stop, Trace, says, ◌then◌, text_or, within}
use Rattle.demand.specs.Listing.{levels, foot_lines, footed, trace, listing}
use Rattle.demand.specs.Demand.{view_of, view_of_part, label_shown, listing_of_part}
use Rattle.forms.specs.Course.{node_course, body_course, course_of, nodes_into}
use Rattle.forms.specs.Inner.{ending, run, Stand, stand_of, go}
use Rattle.forms.proofs.Running.{run_says, run_refused, run_then}
use Rattle.forms.proofs.Going.{go_then, go_writes, go_run, go_spent, spent_last, stays_no}
use Rattle.node_forms.proofs.Ties.{body_tie}
use Rattle.listing.specs.Listed.{listed_of, listed_by, listed_on, list_nodes, list_counted}
use Rattle.listing.specs.Inner.{body_of, Inside, foot_after}

pub zeroed : (w : Refusal) (b c : List ℕ) → c ≡ replicate (length b) 0 → filled_at (Err w) c ≡ listed_of (Err w) b
zeroed w b c h = ap (λ (x : List ℕ). filled_at (Err w) x) h

module _ (t : Trace) (out : List ℕ) where
  run_whole : run (length out) t (at out 0) ≡ ending t.ended (whole t.text out)
  unfolding run
  run_whole = ap (ending t.ended) (whole_written t.text out)

  module _ (p : Answer ℕ) (l : List ℕ) (h : output_of p l ≡ run (length out) t (at out 0)) where
    -- a position that is not refused stands behind the whole text
    placed : (n : ℕ) → p ≡ Ok n → (t.ended ≡ done) × ((n ≡ length t.text) × ((n ≤ length out) × (l ≡ t.text ++ drop n out)))
    unfolding whole
    placed n q = of (le_or_gt (length t.text) (length out)) t.ended (ap (λ (x : Answer ℕ). output_of x l) (sym q) ∙ h ∙ run_whole)
      where
        of : (length t.text ≤ length out) ⊎ (length out < length t.text) → (e : End) → at l n ≡ ending e (whole t.text out)
            → (e ≡ done) × ((n ≡ length t.text) × ((n ≤ length out) × (l ≡ t.text ++ drop n out)))
        of (inl k) done w =
            let a : at l n ≡ at (t.text ++ drop (length t.text) out) (length t.text) = w ∙ sym (at_most_lem _ _ _ _ _ k refl) in
            let m : n ≡ length t.text = cc in
            let c : l ≡ t.text ++ drop (length t.text) out = cc in
            (refl, (m, (rw m k, rw m c)))
        of (inl k) (stop e) w =
            let a : at l n ≡ refused e = w ∙ ap (ending (stop e)) (sym (at_most_lem _ _ _ _ _ k refl)) in
            absurd (let z : ◌≡◌ {A = ℕ} 0 1 = cc in omega arith)
        of (inr k) done w =
            let a : at l n ≡ refused BufferTooShort = w ∙ sym (above _ _ _ _ _ k refl) in
            absurd (let z : ◌≡◌ {A = ℕ} 0 1 = cc in omega arith)
        of (inr k) (stop e) w =
            let a : at l n ≡ refused BufferTooShort = w ∙ ap (ending (stop e)) (sym (above _ _ _ _ _ k refl)) in
            absurd (let z : ◌≡◌ {A = ℕ} 0 1 = cc in omega arith)

    pub placed_inside : Inside p l
    placed_inside = of p refl
      where
        of : (x : Answer ℕ) → p ≡ x → Inside x l
        of (Ok n) q = let s = placed n q in omega (arith, s.1.0, ap length s.1.1.1, length-append t.text (drop n out))
        of (Err e) q = tt

    placed_text : (n : ℕ) → p ≡ Ok n → take n l ≡ t.text
    placed_text n q = let s = placed n q in rw (s.1.1.1, s.1.0) (take-append_seam t.text _)

    listed_got : (n : ℕ) → p ≡ Ok n → filled_at (Ok n) l ≡ listed_of (within (length out) t) out
    unfolding within
    listed_got n q =
        let s = placed n q in
        let k : length t.text ≤ length out = rw (← s.1.0) s.1.1.0 in
        let a : within (length out) t ≡ Ok t.text = sym (at_most_lem _ _ _ _ _ k refl) ∙ ap (text_or t.text) s.0 in
        rw (a, ← s.1.0) (ap (λ (x : List ℕ). record { answer = Ok n; buffer = x }) s.1.1.1)

    -- the text with its foot
    pub foot_run : (z : Output) → z ≡ foot_after (length out) (output_of p l) → z ≡ run (length out) (footed t) (at out 0)
    unfolding footed foot_after
    foot_run z g = g ∙ of p refl ∙ ap (run (length out) (says (foot_lines (totals_of t.text)))) h ∙ sym (run_then (length out) t _ (at out 0))
      where
        of : (x : Answer ℕ) → p ≡ x → foot_after (length out) (output_of x l) ≡ run (length out) (says (foot_lines (totals_of t.text))) (output_of x l)
        of (Ok n) q = ap (λ (y : List ℕ). puts (length out) (foot_lines (totals_of y)) (at l n)) (placed_text n q) ∙ run_says (length out) _ (at l n) _ refl
        of (Err e) q = sym (run_refused (length out) _ e)

    listed_no : (w : Refusal) (z : Filled) → p ≡ Err w → length l ≡ length out → z ≡ listed_of (Err w) l → z ≡ listed_of (within (length out) t) out
    unfolding within whole
    listed_no w z q s g = zeros ∙ of (le_or_gt (length t.text) (length out)) t.ended (ap (λ (x : Answer ℕ). output_of x l) (sym q) ∙ h ∙ run_whole)
      where
        zeros : z ≡ listed_of (Err w) out
        zeros = g ∙ ap (λ (n : ℕ). record { answer = Err w; buffer = replicate n 0 }) s

        of : (length t.text ≤ length out) ⊎ (length out < length t.text) → (e : End) → refused w ≡ ending e (whole t.text out)
            → listed_of (Err w) out ≡ listed_of (within (length out) (record { text = t.text; ended = e })) out
        of (inl k) done y =
            let a : refused w ≡ at (t.text ++ drop (length t.text) out) (length t.text) = y ∙ sym (at_most_lem _ _ _ _ _ k refl) in
            absurd (let g : ◌≡◌ {A = ℕ} 0 1 = cc in omega arith)
        of (inl k) (stop e) y =
            let a : refused w ≡ refused e = y ∙ ap (ending (stop e)) (sym (at_most_lem _ _ _ _ _ k refl)) in
            let m : w ≡ e = cc in
            rw m (ap (λ (x : Answer (List ℕ)). listed_of x out) (at_most_lem _ _ _ _ _ k refl))
        of (inr k) done y =
            let a : refused w ≡ refused BufferTooShort = y ∙ sym (above _ _ _ _ _ k refl) in
            let m : w ≡ BufferTooShort = cc in
            rw m (ap (λ (x : Answer (List ℕ)). listed_of x out) (above _ _ _ _ _ k refl))
        of (inr k) (stop e) y =
            let a : refused w ≡ refused BufferTooShort = y ∙ ap (ending (stop e)) (sym (above _ _ _ _ _ k refl)) in
            let m : w ≡ BufferTooShort = cc in
            rw m (ap (λ (x : Answer (List ℕ)). listed_of x out) (above _ _ _ _ _ k refl))

-- the volume's line and the root
module _ (room : ℕ) (b : List ℕ) (v : Volume) (out l : List ℕ) (a : Counted ℕ) (s : ℕ) (k : NameRule) (w : List ℕ) (e : k ≡ rule_of v) (f : w ≡ label_of b v)
    (g : output_of a.answer l ≡ puts room (volume_line k.case_insensitive k.normalization_insensitive (lossy w) []) (at out 0)) (j : a.nodes ≡ s) where
  abbrev Body : Counted ℕ → List ℕ → Type 0
  Body r last = (output_of r.answer last ≡ run room (body_of b v) (at out 0)) × (r.nodes ≡ nodes_into room b v s)

  body_go : (z : Stand) → z ≡ go room (node_course b v levels root_id) (stand_of a l) → z ≡ go room (body_course b v) (record { output = at out 0; nodes = s })
  unfolding body_course label_shown
  body_go z h =
      let line : output_of a.answer l ≡ puts room (volume_line (rule_of v).case_insensitive (rule_of v).normalization_insensitive (lossy (label_of b v)) []) (at out 0) = rw (e, f) at g in
      h ∙ ap (go room (node_course b v levels root_id)) (ap (λ (x : ℕ). record { output = output_of a.answer l; nodes = x }) j ∙ go_writes room _ (record { output = at out 0; nodes = s }) (output_of a.answer l) line)
      ∙ sym (go_then room _ _ (record { output = at out 0; nodes = s }))

  body_both : (r : Counted ℕ) (last : List ℕ) → stand_of r last ≡ go room (node_course b v levels root_id) (stand_of a l) → Body r last
  unfolding nodes_into course_of
  body_both r last h =
      let d = body_go (stand_of r last) h in (
        ap (λ (x : Stand). x.output) d ∙ go_run room (body_course b v) _ ∙ ap (λ (t : Trace). run room t (at out 0)) (body_tie b v),
        ap (λ (x : Stand). x.nodes) d ∙ go_spent room (body_course b v) out s ∙ sym (spent_last room (body_course b v) _ s),
      )

  pub body_whole : (n : ℕ) → n ≡ levels → (r : Counted ℕ) (last : List ℕ) → stand_of r last ≡ go room (node_course b v n 2) (stand_of a l) → Body r last
  body_whole n m r last h = body_both r last (rw m at h)

  pub body_stopped : (x : Refusal) → a.answer ≡ Err x → Body a l
  body_stopped x q = body_both a l (stays_no a room (node_course b v levels root_id) x l q)

-- and the foot
module _ (out b : List ℕ) (v : Volume) (p : Answer ℕ) (c : List ℕ) (h : output_of p c ≡ run (length out) (body_of b v) (at out 0)) where
  pub foot_inside : Inside p c
  foot_inside = placed_inside (body_of b v) out p c h

  pub listing_whole : (z : Output) → z ≡ foot_after (length out) (output_of p c) → z ≡ run (length out) (trace (view_of b v)) (at out 0)
  unfolding trace
  listing_whole = foot_run (body_of b v) out p c h

pub inside_at : (p : Answer ℕ) (b : List ℕ) (n : ℕ) → Inside p b → p ≡ Ok n → n ≤ length b
inside_at p b n h q = rw q at h

pub front_length : (p : Answer ℕ) (b : List ℕ) (n : ℕ) → Inside p b → p ≡ Ok n → length (take n b) ≡ n
front_length p b n h q = length-take-le n b (inside_at p b n h q)

-- what the foot writes
module _ (room : ℕ) (p : Answer ℕ) (b : List ℕ) where
  pub foot_refused : (e : Refusal) → p ≡ Err e → refused e ≡ foot_after room (output_of p b)
  unfolding foot_after
  foot_refused e q = rw q

  pub foot_written : (n : ℕ) (t : Totals) (z : Output) → p ≡ Ok n → t ≡ totals_of (take n b) → z ≡ puts room (foot_lines t) (at b n) → z ≡ foot_after room (output_of p b)
  unfolding foot_after
  foot_written n t z q e g = rw q (g ∙ ap (λ (u : Totals). puts room (foot_lines u) (at b n)) e)

pub foot_lines_lem : (room : ℕ) (t : Totals) (o x z : Output) → x ≡ puts room (total_line t.nodes t.bytes t.attrs []) o → z ≡ puts room (ascii ")\n" []) x → z ≡ puts room (foot_lines t) o
unfolding close
foot_lines_lem room t o x z g k = (then) room o x z _ (close []) (foot_lines t) (total_append t.nodes t.bytes t.attrs (close [])) g k

-- of a volume
module _ (b : List ℕ) (v : Volume) (out last : List ℕ) (p : Counted ℕ) (s : ℕ) (h : output_of p.answer last ≡ run (length out) (trace (view_of b v)) (at out 0)) (k : p.nodes ≡ nodes_into (length out) b v s) where
  abbrev left : Filled → Answered
  left x = record { nodes = p.nodes; result = x }

  on_volume_lem : (x : Filled) → x ≡ listed_of (listing (view_of b v) (length out)) out → left x ≡ listed_by (listed_on b v (length out) s) out
  unfolding listed_on
  on_volume_lem x e = λ i. record { nodes = k i; result = e i }

  pub volume_listed : (n : ℕ) → p.answer ≡ Ok n → called_by p last ≡ listed_by (listed_on b v (length out) s) out
  unfolding listing
  volume_listed n q = on_volume_lem (filled_at p.answer last) (ap (λ (x : Answer ℕ). filled_at x last) q ∙ listed_got (trace (view_of b v)) out p.answer last h n q)

  pub volume_refused : (w : Refusal) (z : Filled) → p.answer ≡ Err w → length last ≡ length out → z ≡ listed_of (Err w) last → left z ≡ listed_by (listed_on b v (length out) s) out
  unfolding listing
  volume_refused w z q e g = on_volume_lem z (listed_no (trace (view_of b v)) out p.answer last h w z q e g)

module _ (image : List ℕ) (index : Which) (n : ℕ) (out : List ℕ) (r : Counted Volume) (p : r ≡ volume_of_image image index) where
  -- the listing, by what opening answered
  abbrev by : Answer Volume → Answer (List ℕ)
  by a = a >>= (λ v. Ok (view_of image v)) >>= λ w. listing w n

  opened : (x : Answer Volume) → r.answer ≡ x → listed_of (by x) out ≡ listed_of (listing_of_part image index n) out
  unfolding listing_of_part view_of_part
  opened x q = ap (λ (y : Answer Volume). listed_of (by y) out) (sym q) ∙ ap (λ (c : Counted Volume). listed_of (by c.answer) out) p

  nodes_opened : (x : Answer Volume) → r.answer ≡ x → (onto (record { nodes = r.nodes; answer = x }) (λ v s. listed_on image v n s)).nodes ≡ list_nodes image index n
  unfolding list_nodes
  nodes_opened x q =
      ap (λ (y : Answer Volume). (onto (record { nodes = r.nodes; answer = y }) (λ v s. listed_on image v n s)).nodes) (sym q) ∙ ap (λ (c : Counted Volume). (onto c (λ v s. listed_on image v n s)).nodes) p

  pub list_opened : (v : Volume) (z : Answered) → r.answer ≡ Ok v → z ≡ listed_by (listed_on image v n r.nodes) out → z ≡ listed_by (list_counted image index n) out
  unfolding list_counted listed_on
  list_opened v z q h = h ∙ λ i. record { nodes = nodes_opened (Ok v) q i; result = opened (Ok v) q i }

  pub list_refused : (w : Refusal) (z : Filled) → r.answer ≡ Err w → z ≡ listed_of (Err w) out → ◌≡◌ {A = Answered} (record { nodes = r.nodes; result = z }) (listed_by (list_counted image index n) out)
  unfolding list_counted
  list_refused w z q h = λ i. record { nodes = nodes_opened (Err w) q i; result = (h ∙ opened (Err w) q) i }

pub ruleset all = (rules, body_stopped, foot_lines_lem, foot_refused, foot_written, foot_inside, inside_at, front_length, listing_whole, zeroed, volume_listed, volume_refused, list_opened, list_refused)
