use borrow.Author.Rules.{rules}
use Rattle.results.proofs.Results.{ends}
use Rattle.apfs.proofs.on_part.xattr_bytes_part.Statement.{statement}
use Rattle.apfs.proofs.on_part.xattr_bytes_part.Tie as tie

pub xattr_bytes_part_spec : {M : Type 1} → statement M
xattr_bytes_part_spec =
    tie.close
    (tie.spec
    (λ c κs. search rules)
    (λ c. search rules)
    (λ c κs. search rules)
    (λ c κs. search rules)
    (λ c κs. search ends)
    (λ c. search rules)
    (λ c κs. search rules)
    (λ c. search rules)
    (λ c. rw (← c.part_of_image.ensures, c.in-Ok.is, ← c.part.ensures) (search ends))
    (λ c. rw (← c.part_of_image.ensures, c.in-Err.is) (search ends)))
