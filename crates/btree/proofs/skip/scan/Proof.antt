use Rattle.btree.proofs.Nth.{scan_high, scan_told}
use borrow.Author.Rules.{rules}
use Rattle.btree.proofs.skip.scan.Statement.{statement}
use Rattle.btree.proofs.skip.scan.Tie as tie

pub scan_spec : {M : Type 1} → statement M
scan_spec =
    tie.close
    (tie.spec
    (λ c. search (rules, scan_high, scan_told))
    (λ c κs. search rules)
    (λ c κs. search rules)
    (λ c κs. search rules)
    (λ c. search (rules, scan_high, scan_told)))
