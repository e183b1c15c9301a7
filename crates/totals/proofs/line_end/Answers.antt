use Rattle.std.proofs.Common.{rules, tests}
use native.Mathlib.Omega.{arith}
use Rattle.std.proofs.lemmas.Iterator.{YieldsList-from_slice}
use Rattle.std.proofs.lemmas.Iterator.Search.{position_from_yields_List}
use Rattle.totals.proofs.Turns.{lf, line_found}
use Rattle.totals.proofs.line_end.Goals as goal

pub returns : goal.returns
returns c =
    let r = c.past_blocks-rest.result.now in
    let f = position_from_yields_List lf _ _ c.position-within.result c.position-within.ensures.ran (YieldsList-from_slice r cc) (λ x b q k. search (rules, tests)) in
    omega (arith, line_found r c.unwrap_or.result (rw f at c.unwrap_or.ensures), c.past_blocks-rest.ensures)
