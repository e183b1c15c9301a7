use Rattle.cursor.proofs.Left.{final}
use Rattle.cursor.proofs.Ways.{begun_passed, begun_kept}
use borrow.Author.Rules.{rules}
use Rattle.cursor.proofs.way.begin_index.Statement.{statement}
use Rattle.cursor.proofs.way.begin_index.Tie as tie

pub begin_index_spec : {M : Type 1} → statement M
begin_index_spec =
    tie.close
    (tie.spec
    (λ c κs. search rules)
    (λ c. search rules)
    (λ c κs. search rules)
    (λ c. search rules)
    (λ c κs. search rules)
    (λ c. search rules)
    (λ c κs. search rules)
    (λ c. search rules)
    (λ c κs. search rules)
    (λ c. search (rules, final, begun_passed, begun_kept))
    (λ c. search (rules, final, begun_passed, begun_kept))
    (λ c. search (rules, final, begun_passed, begun_kept))
    (λ c. search (rules, final, begun_passed, begun_kept)))
