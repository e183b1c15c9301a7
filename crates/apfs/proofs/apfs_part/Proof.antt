use borrow.Author.Rules.{rules}
use Rattle.results.proofs.Results.{ends}
use Rattle.apfs.proofs.apfs_part.Statement.{statement}
use Rattle.apfs.proofs.apfs_part.Tie as tie

pub apfs_part_spec : {M : Type 1} → statement M
apfs_part_spec =
    tie.close
    (tie.spec
    (λ c κs. search rules)
    (λ c κs. search ends)
    (λ c. search rules)
    (λ c. search ends))
