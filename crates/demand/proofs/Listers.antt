-- The wrong listers are shut out: what that says stands in specs/Listers.antt.
use Prim.Native.Nat.{ℕ, ◌-◌, ◌^◌, ◌≤◌}
use mathlib.Core.Path.{◌≡◌, refl, sym, ap, subst}
use mathlib.Core.Bool.{Bool, true, false, cond}
use mathlib.Core.List.{List, [], ◌∷◌}
use native.Mathlib.Omega.{arith}
use lib.Dec.{eqb}
use lib.ListN.{length}
use Rattle.error.specs.Answer.{Answer, Ok, if_eq}
use Rattle.error.proofs.Laws.{got_is, at_most_lem}
use Rattle.volume.specs.Open.{latest}
use Rattle.volume.specs.declared.Which.{Which}
use Rattle.text.specs.Words.{ascii, places, digits, signed, glyph, pairs}
use Rattle.lines.specs.Shown.{InodeShown}
use Rattle.lines.specs.Lines.{volume_line, node_line, contents_line, entry_line, total_line, close}
use Rattle.totals.specs.Totals.{lines_of, begins, line_totals, all_lines, totals_of}
use Rattle.demand.specs.Trace.{Trace, says, ◌then◌, reading, within}
use Rattle.demand.specs.View.{View}
use Rattle.demand.specs.Listing.{attribute_lines, data_line, entry_forms, node_form, footed, trace, listing}
use Rattle.demand.specs.Demand.{here, place, onward, follow, Agree, past, on, Same, DemandOn}
use Rattle.demand.specs.Listers.{writing, ours, fixed_text, root_alone, image_itself, small_inode, small_file, small_view, small_at, small_find, ShutOut, WrongListers}
use Rattle.demand.proofs.Walks.{Reads}
use Rattle.demand.proofs.Callable.{Short}
use Rattle.demand.proofs.Parts.{listing_of_view}
use Rattle.demand.proofs.Demand.{demand_met}
use Rattle.demand.proofs.Edges.{unpacked}

-- a text in as much room as it has
fits : (s : List ℕ) → within (length s) (says s) ≡ Ok s
unfolding within
fits s = sym (at_most_lem (length s) (length s) _ _ _ (omega arith) refl)

-- what a lister writes of an image whose volume is opened
module _ (view : List ℕ → Which → Answer View) (text : List ℕ → View → Trace) (a : List ℕ) (i : Which) (v : View) (s : List ℕ) where
  written : view a i ≡ Ok v → text a v ≡ says s → writing text view a i (length s) ≡ Ok s
  unfolding writing
  written h e = rw (h, e) (fits s)

-- the two ways in which the demand is not met
module _ (view : List ℕ → Which → Answer View) (find : List ℕ → Which → List ℕ → Answer InodeShown) (text : List ℕ → View → Trace)
    (a b : List ℕ) (i j : Which) (v w : View) (p : view a i ≡ Ok v) (q : view b j ≡ Ok w) (s t : List ℕ) (f : text a v ≡ says s) (g : text b w ≡ says t)
    (d : DemandOn view find (writing text view)) where
  same_by_demand : s ≡ t → Same v w
  same_by_demand e = rw (p, q) at ((d.listings a b i j (length s) (length t) s t (written view text a i v s p f) (written view text b j w t q g)).0 e)

  equal_by_demand : Same v w → s ≡ t
  equal_by_demand e = (d.listings a b i j (length s) (length t) s t (written view text a i v s p f) (written view text b j w t q g)).1 (rw (p, q) e)

shut_out : (view : List ℕ → Which → Answer View) (find : List ℕ → Which → List ℕ → Answer InodeShown) → ShutOut view find
shut_out view find = record {
  fixed_text_lem = λ a b i j v w p q differ s d. differ (same_by_demand view find (fixed_text s) a b i j v w p q s s refl refl d refl);
  deeper_blank = λ a b i j v w p q differ s f g d. differ (same_by_demand view find root_alone a b i j v w p q s s f g d refl);
  image_copied = λ a b i j v w p q same differ d. differ (equal_by_demand view find image_itself a b i j v w p q a b refl refl d same);
}

-- ---- the small sticks

small_reads : (b : ℕ) → Reads (small_view b)
small_reads b = record {
  of_packed = λ i f h p off len. absurd (unpacked i f h p);
  of_plain = λ i f bs h p q off len. let e : small_file b f.id ≡ bs = got_is _ bs q in rw e;
}

small_length : (b : ℕ) (x : Bool) → length (cond x (b ∷ []) []) ≤ 2 ^ 64 - 1
small_length b true = omega arith
small_length b false = omega arith

small_short : (b : ℕ) → Short (2 ^ 64 - 1) (small_view b)
small_short b = record { short = λ i f bs h q. let e : small_file b f.id ≡ bs = got_is _ bs q in rw (← e) (small_length b (eqb f.id 4)) }

small_met : DemandOn small_at small_find (writing ours small_at)
unfolding writing listing
small_met = demand_met small_at small_find (writing ours small_at) (λ image index room. refl) (λ image index path. refl)
    (λ image index v h. subst Reads (got_is _ v h) (small_reads _)) (λ image index v h k. subst (Short (2 ^ 64 - 1)) (got_is _ v h) (small_short _))

-- its whole listing
small_listed : trace (small_view 0)
    ≡ says (ascii "(volume 0 0 x41\n(node 2 1 2 0 0 0 0 0 0 0 0 0 16877 - -\n(data x)\n(entry 3 0 4 x61\n(node 3 1 3 0 0 0 0 0 0 0 0 0 16877 - -\n(data x)\n(entry 4 0 8 x62\n(node 4 1 4 0 0 0 0 0 0 0 0 0 16877 - -\n(data x00)\n)\n)\n)\n)\n)\n(total 3 1 0)\n)\n" [])
unfolding trace node_form attribute_lines data_line entry_forms reading ◌then◌ volume_line node_line contents_line entry_line total_line close footed totals_of lines_of all_lines line_totals begins if_eq signed digits places pairs glyph
small_listed = refl

-- the same where its file is the same
small_same : Same (small_view 0) (small_view 0)
small_same = same_by_demand small_at small_find ours (0 ∷ []) (0 ∷ []) (latest 0) (latest 0) (small_view 0) (small_view 0) refl refl _ _ small_listed small_listed small_met refl

-- and not where it differs, two levels down
small_differ : Same (small_view 0) (small_view 1) → ⊥
unfolding follow onward place
small_differ s = go (s.chains (0 ∷ 0 ∷ []))
  where
    go : Agree (small_view 0) (small_view 1) (here (small_inode 0 4)) (here (small_inode 0 4)) → ⊥
    go (past p q) = let z : ◌≡◌ {A = ℕ} 0 1 = cc in omega arith
    go (on f p q e a r) =
        let k : small_inode 0 4 ≡ f = cc in
        let n : f.id ≡ 4 = ap (λ (g : InodeShown). g.id) (sym k) in
        let h = rw n at (r 0 1) in
        let z : ◌≡◌ {A = ℕ} 0 1 = cc in omega arith

root_written : (b : ℕ) → root_alone (b ∷ []) (small_view b)
    ≡ says (ascii "(volume 0 0 x41\n(node 2 1 2 0 0 0 0 0 0 0 0 0 16877 - -\n(data x)\n(entry 3 0 4 x61\n)\n)\n(total 1 0 0)\n)\n" [])
unfolding root_alone attribute_lines data_line entry_forms reading ◌then◌ volume_line node_line contents_line entry_line total_line close footed totals_of lines_of all_lines line_totals begins if_eq signed digits places pairs glyph
root_written b = refl

pub wrong_listers : WrongListers
unfolding writing listing
wrong_listers =
    let shut = shut_out small_at small_find in
    record {
      ours_meets = small_met;
      fixed_text_lem = shut.fixed_text_lem (0 ∷ []) (1 ∷ []) (latest 0) (latest 0) (small_view 0) (small_view 1) refl refl small_differ;
      deeper_blank = shut.deeper_blank (0 ∷ []) (1 ∷ []) (latest 0) (latest 0) (small_view 0) (small_view 1) refl refl small_differ _ (root_written 0) (root_written 1);
      image_copied = shut.image_copied (0 ∷ 0 ∷ []) (0 ∷ 1 ∷ []) (latest 0) (latest 0) (small_view 0) (small_view 0) refl refl small_same (λ e. let z : ◌≡◌ {A = ℕ} 0 1 = cc in omega arith);
      anywhere = shut_out;
      ours_lists = λ image index room. sym (listing_of_view image index room);
    }
