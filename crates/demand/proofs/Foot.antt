-- The totals, proved: what they say stands in specs/Foot.antt.
use Prim.Native.Nat.{ℕ}
use mathlib.Core.Path.{◌≡◌, sym, ap, ◌∙◌}
use mathlib.Core.List.{List, []}
use Rattle.error.specs.Answer.{Ok}
use Rattle.error.proofs.Laws.{bound}
use Rattle.volume.specs.declared.Which.{Which}
use Rattle.lines.specs.Lines.{volume_line}
use Rattle.totals.specs.declared.Totals.{Totals}
use Rattle.demand.specs.View.{View}
use Rattle.demand.specs.Listing.{foot_lines, listing}
use Rattle.demand.specs.Tree.{of_tree}
use Rattle.demand.specs.Demand.{view_at, listing_of}
use Rattle.demand.specs.Foot.{Totalled, TotalsAtFoot}
use Rattle.demand.proofs.TreeLaws.{volume_split}
use Rattle.demand.proofs.TreeTotals.{totals_tree}
use Rattle.demand.proofs.Shows.{Listed, listing_done}
use Rattle.demand.proofs.Parts.{listing_of_view}

totalled : (v : View) (t : List ℕ) → Listed v t → Totalled v t
totalled v t a = record {
  tree = a.tree;
  shows = a.shows;
  text = a.text ∙ volume_split v.rule v.label a.tree
      ∙ ap (λ (z : Totals). volume_line (v.rule).case_insensitive (v.rule).normalization_insensitive v.label (of_tree a.tree (foot_lines z))) (totals_tree _ _ v.label a.tree);
}

module _ (image : List ℕ) (w : Which) (room : ℕ) (t : List ℕ) (h : listing_of image w room ≡ Ok t) where
  listed : (v : View) × ((view_at image w ≡ Ok v) × (listing v room ≡ Ok t))
  listed = bound (view_at image w) (λ v. listing v room) t (sym (listing_of_view image w room) ∙ h)

pub totals_at_foot : TotalsAtFoot
totals_at_foot = record {
  total_counts = λ image w room t h.
      let l = listed image w room t h in
      let v = l.0 in
      let a = listing_done v room l.1.1 in
      (volume_line (v.rule).case_insensitive (v.rule).normalization_insensitive v.label (of_tree a.tree []), a.text);
  totals_shown = λ image w room t h.
      let l = listed image w room t h in
      (l.0, (l.1.0, totalled l.0 t (listing_done l.0 room l.1.1)));
}
