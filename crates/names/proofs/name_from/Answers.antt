-- The first byte that is not plain ends the name, or there is none.
use Rattle.std.proofs.Common.{rules, tests}
use Rattle.std.proofs.lemmas.Iterator.{IsFirst-from_position, YieldsList-from_slice}
use Rattle.names.proofs.Laws.{Plain, name_end, name_zero}
use Rattle.names.proofs.name_from.Goals as goal

pub returns-then-b-n-eq0 : goal.returns-then-b-n-eq0
returns-then-b-n-eq0 c =
    let f = IsFirst-from_position _ _ _ (λ x. Unit) Plain c.position.ensures.ran (YieldsList-from_slice c.args.b.now cc) (λ x q k. tt) (λ x q k. search (rules, tests)) in
    let g = rw c.in-Some.is at f in
    name_zero _ _ _ _ c.named-then-b-n-eq0.ensures g.2 g.0 c.if-b-n-eq0.true

pub returns-in-None : goal.returns-in-None
returns-in-None c =
    let f = IsFirst-from_position _ _ _ (λ x. Unit) Plain c.position.ensures.ran (YieldsList-from_slice c.args.b.now cc) (λ x q k. tt) (λ x q k. search (rules, tests)) in
    name_end _ _ _ c.named.ensures (rw c.in-None.is at f)
