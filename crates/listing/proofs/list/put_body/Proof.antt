use borrow.Author.Rules.{rules}
use mathlib.Core.Path.{refl}
use Rattle.listing.proofs.Whole.{all, body_whole, body_stopped}
use Rattle.listing.proofs.list.put_body.Statement.{statement}
use Rattle.listing.proofs.list.put_body.Tie as tie
use Rattle.lookup.specs.declared.counted.Counted.{Counted}
use Rattle.std.specs.Prelude.{ℕ}

pub put_body_spec : {M : Type 1} → statement M
put_body_spec =
    tie.close
    (tie.spec
    (λ c κs. search rules)
    (λ c κs. search rules)
    (λ c κs. search rules)
    (λ c. search rules)
    (λ c. search rules)
    (λ c. let a : (Counted ℕ) = record { nodes = c.args.nodes; answer = c.put_volume_line.result } in body_stopped _ _ c.args.v _ _ a _ _ _ c.name_rule-rule.ensures c.label_of-label.ensures c.put_volume_line.ensures refl _ c.in-Err.is)
    (λ c. search rules)
    (λ c κs. search rules)
    (λ c κs. search rules)
    (λ c. search rules)
    (λ c. let a : (Counted ℕ) = record { nodes = c.args.nodes; answer = c.put_volume_line.result } in body_whole _ _ c.args.v _ _ a _ _ _ c.name_rule-rule.ensures c.label_of-label.ensures c.put_volume_line.ensures refl _ c.levels.ensures c.put_node.result _ c.put_node.ensures))
