use Rattle.std.proofs.Common.{eqb, rules, tests}
use Rattle.std.proofs.lemmas.Iterator.{YieldsList-from_slice}
use Rattle.std.proofs.lemmas.Iterator.Search.{position_from_yields_List}
use Rattle.byte_fields.proofs.Laws.{zero_found, zero_missed}
use Rattle.byte_fields.proofs.cstr.Goals as goal

pub returns-in-Some : goal.returns-in-Some
returns-in-Some c =
    let p = position_from_yields_List (λ x. eqb x 0) _ _ c.position.result c.position.ensures.ran (YieldsList-from_slice c.args.b.now cc) (λ x b q k. search (rules, tests)) in
    zero_found c.args.b.now _ (cc (p, c.in-Some.is))

pub returns-in-None : goal.returns-in-None
returns-in-None c =
    let p = position_from_yields_List (λ x. eqb x 0) _ _ c.position.result c.position.ensures.ran (YieldsList-from_slice c.args.b.now cc) (λ x b q k. search (rules, tests)) in
    zero_missed c.args.b.now (cc (p, c.in-None.is))
