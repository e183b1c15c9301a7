use Rattle.std.proofs.Common.{◌≡◌, length, rules}
use native.Mathlib.Omega.{arith}
use Rattle.totals.proofs.Turns.{totals_over, nodes_fit, bytes_fit, attrs_fit, rest_less, few_next, totals_next}
use Rattle.totals.proofs.totals_in.Goals as goal

pub overflow_add-t : goal.overflow_add-t
overflow_add-t c =
    let some : length c.loop-rest.rest.now ≡ 0 → ⊥ = search rules in
    let i = c.loop-rest.invariant in
    record { fits = nodes_fit _ _ some c.line_end-end.ensures _ c.line_totals-l.ensures _ _ i.1 i.2 (search rules) }

pub overflow_add-t-in-loop-rest : goal.overflow_add-t-in-loop-rest
overflow_add-t-in-loop-rest c =
    let some : length c.loop-rest.rest.now ≡ 0 → ⊥ = search rules in
    let i = c.loop-rest.invariant in
    record { fits = bytes_fit _ _ some c.line_end-end.ensures _ c.line_totals-l.ensures _ _ i.1 i.2 (search rules) }

pub overflow_add-t-in-loop-rest-2 : goal.overflow_add-t-in-loop-rest-2
overflow_add-t-in-loop-rest-2 c =
    let some : length c.loop-rest.rest.now ≡ 0 → ⊥ = search rules in
    let i = c.loop-rest.invariant in
    record { fits = attrs_fit _ _ some c.line_end-end.ensures _ c.line_totals-l.ensures _ _ i.1 i.2 (search rules) }

pub loop-rest-preserved : goal.loop-rest-preserved
loop-rest-preserved c =
    let some : length c.loop-rest.rest.now ≡ 0 → ⊥ = search rules in
    let i = c.loop-rest.invariant in
    (totals_next _ _ some c.line_end-end.ensures _ c.min.ensures _ c.line_totals-l.ensures _ _ i.0, omega (arith, rest_less _ _ some c.line_end-end.ensures _ c.min.ensures, i.1), few_next _ _ some c.line_end-end.ensures _ c.min.ensures _ c.line_totals-l.ensures _ _ i.1 i.2)

pub returns : goal.returns
returns c = totals_over _ _ _ c.loop-rest.invariant.0 (search rules)
