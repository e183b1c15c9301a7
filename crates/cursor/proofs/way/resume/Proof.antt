use Rattle.cursor.proofs.Ways.{kinded_first, higher_low, leads_higher}
use borrow.Author.Rules.{rules}
use Rattle.cursor.proofs.way.resume.Statement.{statement}
use Rattle.cursor.proofs.way.resume.Tie as tie

pub resume_spec : {M : Type 1} → statement M
resume_spec =
    tie.close
    (tie.spec
    (λ c κs. search rules)
    (λ c κs. search rules)
    (λ c. search (rules, kinded_first))
    (λ c κs. search rules)
    (λ c. search (rules, kinded_first))
    (λ c κs. search rules)
    (λ c κs. search rules)
    (λ c. search (rules, kinded_first))
    (λ c κs. higher_low _ _ _ _ c.requires (search rules) _ _ c.with_kind-higher.ensures)
    (λ c. leads_higher _ _ _ _ c.requires (search rules) _ _ c.with_kind-higher.ensures _ _ (search rules) c.stays_on.ensures (search rules) c.begin_at.ensures))
