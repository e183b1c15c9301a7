use borrow.Author.Rules.{rules}
use Rattle.lines.specs.Inner.{time_words}
use Rattle.lines.proofs.Laws.{then_number}
use Rattle.lines.proofs.inode.put_times.Statement.{statement}
use Rattle.lines.proofs.inode.put_times.Tie as tie

pub put_times_spec : {M : Type 1} → statement M
unfolding time_words
put_times_spec =
    tie.close
    (tie.spec
    (λ c κs. search rules)
    (λ c κs. search rules)
    (λ c κs. search rules)
    (λ c κs. search rules)
    (λ c. search rules)
    (λ c. search (rules, then_number)))
