-- `replay::reads_as` meets its contract.
use mathlib.Core.Path.{sym}
use lib.Seq.{length-take-le}
use borrow.Author.Rules.{rules}
use native.Mathlib.Omega.{arith}
use Rattle.replay.proofs.reads_as.Statement.{statement}
use Rattle.replay.proofs.reads_as.Tie as tie

pub reads_as_spec : {M : Type 1} → statement M
reads_as_spec =
    tie.close
    (tie.spec
    (λ c. sym (length-take-le _ _ (omega arith)))
    (λ c. search rules)
    (λ c. search rules)
    (λ c. search rules)
    (λ c κs. search rules)
    (λ c. search rules)
    (λ c. search rules))
