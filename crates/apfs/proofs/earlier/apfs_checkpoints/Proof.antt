use borrow.Author.Rules.{rules}
use Rattle.results.proofs.Xids.{xids}
use Rattle.apfs.proofs.earlier.apfs_checkpoints.Statement.{statement}
use Rattle.apfs.proofs.earlier.apfs_checkpoints.Tie as tie

pub apfs_checkpoints_spec : {M : Type 1} → statement M
apfs_checkpoints_spec =
    tie.close
    (tie.spec
    (λ c κs. search rules)
    (λ c. search rules)
    (λ c κs. search rules)
    (λ c κs. search rules)
    (λ c κs. search xids)
    (λ c. search rules)
    (λ c κs. search rules)
    (λ c. search rules)
    (λ c. rw (← c.part_of_image.ensures, c.in-Ok.is, ← c.part.ensures) (search xids))
    (λ c. rw (← c.part_of_image.ensures, c.in-Err.is) (search xids)))
