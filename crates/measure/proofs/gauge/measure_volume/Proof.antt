use borrow.Author.Rules.{rules}
use Rattle.measure.proofs.Gauging.{gauging, measured_body, measured_got, measured_foot}
use Rattle.measure.proofs.gauge.measure_volume.Statement.{statement}
use Rattle.measure.proofs.gauge.measure_volume.Tie as tie

pub measure_volume_spec : {M : Type 1} → statement M
measure_volume_spec =
    tie.close
    (tie.spec
    (λ c κs. search rules)
    (λ c. search rules)
    (λ c κs. search rules)
    (λ c. search rules)
    (λ c κs. search rules)
    (λ c κs. search rules)
    (λ c κs. search rules)
    (λ c. search rules)
    (λ c. search rules)
    (λ c κs. search rules)
    (λ c. search rules)
    (λ c. (measured_body c.args.image.now c.args.v c.args.none.now _ _ c.requires c.put_body-p.ensures.0 _ c.refused.result c.in-Err.is c.refused.ensures, c.put_body-p.ensures.1))
    (λ c. search rules)
    (λ c. (measured_got c.args.image.now c.args.v c.args.none.now _ _ c.requires c.put_body-p.ensures.0 _ c.in-Ok.is _ _ c.levels.ensures c.tally_node-t.ensures _ _ c.put_foot.ensures _ c.in-Ok-put_foot.is, c.put_body-p.ensures.1))
    (λ c. search rules)
    (λ c. (measured_foot c.args.image.now c.args.v c.args.none.now _ _ c.requires c.put_body-p.ensures.0 _ c.in-Ok.is _ _ c.levels.ensures c.tally_node-t.ensures _ _ c.put_foot.ensures _ c.refused-in-Err-put_foot.result c.in-Err-put_foot.is c.refused-in-Err-put_foot.ensures, c.put_body-p.ensures.1)))
