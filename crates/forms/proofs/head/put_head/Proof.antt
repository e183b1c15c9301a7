use mathlib.Core.Path.{refl}
use borrow.Author.Rules.{rules}
use Rattle.forms.proofs.Heads.{heads, head_all}
use Rattle.forms.proofs.head.put_head.Statement.{statement}
use Rattle.forms.proofs.head.put_head.Tie as tie
use Rattle.lookup.specs.declared.counted.Counted.{Counted}
use Rattle.std.specs.Prelude.{ℕ}

pub put_head_spec : {M : Type 1} → statement M
put_head_spec =
    tie.close
    (tie.spec
    (λ c κs. search rules)
    (λ c. search rules)
    (λ c. search rules)
    (λ c. search heads)
    (λ c. search rules)
    (λ c κs. search rules)
    (λ c κs. search rules)
    (λ c κs. search rules)
    (λ c κs. c.requires)
    (λ c. search rules)
    (λ c. let a : (Counted ℕ) = record { nodes = c.args.p.nodes; answer = c.put_node_line.result } in
    head_all _ _ _ _ _ _ a _ c.put_node_line.ensures refl c.list_on-attributes.result c.read_lists-b.result _ _ c.list_on-attributes.ensures c.read_lists-b.ensures c.put_attributes-c.ensures c.put_data.ensures))
