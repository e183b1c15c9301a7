use borrow.Author.Rules.{rules}
use Rattle.reads.specs.Reads.{xattr_counted}
use Rattle.calls.proofs.Steps.{onward}
use Rattle.reads.proofs.attribute.xattr_bytes.Statement.{statement}
use Rattle.reads.proofs.attribute.xattr_bytes.Tie as tie

pub xattr_bytes_spec : {M : Type 1} → statement M
unfolding xattr_counted
xattr_bytes_spec =
    tie.close
    (tie.spec
    (λ c κs. search rules)
    (λ c. search rules)
    (λ c κs. search rules)
    (λ c. search rules)
    (λ c. search rules)
    (λ c. search onward)
    (λ c. search onward))
