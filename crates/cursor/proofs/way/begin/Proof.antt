use Rattle.cursor.proofs.Ways.{leads_low, leads_own}
use borrow.Author.Rules.{rules}
use Rattle.cursor.proofs.way.begin.Statement.{statement}
use Rattle.cursor.proofs.way.begin.Tie as tie

pub begin_spec : {M : Type 1} → statement M
begin_spec =
    tie.close
    (tie.spec
    (λ c κs. search rules)
    (λ c. search rules)
    (λ c κs. leads_low _ _ _ _ c.requires (search rules))
    (λ c. search (rules, leads_own)))
