use borrow.Author.Rules.{rules}
use Rattle.forms.proofs.Heads.{heads, lists_read}
use Rattle.forms.proofs.head.read_lists.Statement.{statement}
use Rattle.forms.proofs.head.read_lists.Tie as tie

pub read_lists_spec : {M : Type 1} → statement M
read_lists_spec =
    tie.close
    (tie.spec
    (λ c κs. search rules)
    (λ c κs. search rules)
    (λ c. search rules)
    (λ c. search (heads, c.read-q.ensures))
    (λ c. search rules)
    (λ c κs. search rules)
    (λ c κs. search rules)
    (λ c. lists_read _ _ c.settle_attributes-a.result c.args.p c.read-q.result c.settle_attributes-a.ensures c.read-q.ensures c.settle_entries-e.result c.read.result c.settle_entries-e.ensures c.read.ensures))
