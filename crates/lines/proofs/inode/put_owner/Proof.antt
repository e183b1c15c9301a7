use borrow.Author.Rules.{rules}
use Rattle.lines.specs.Inner.{owner_words}
use Rattle.lines.proofs.Laws.{all, then_number, then_signed_number}
use Rattle.lines.proofs.inode.put_owner.Statement.{statement}
use Rattle.lines.proofs.inode.put_owner.Tie as tie

pub put_owner_spec : {M : Type 1} → statement M
unfolding owner_words
put_owner_spec =
    tie.close
    (tie.spec
    (λ c κs. search rules)
    (λ c κs. search rules)
    (λ c. search rules)
    (λ c κs. search rules)
    (λ c. search rules)
    (λ c. search rules)
    (λ c. search rules)
    (λ c κs. search rules)
    (λ c. search rules)
    (λ c.
    then_number _ _ _ _ _ _ c.put_number-a.ensures
    (then_signed_number _ _ _ _ _ _ _ c.put_signed_number-b.ensures (search all)
    (then_number _ _ _ _ _ _ c.put_number-c.ensures c.put_three.ensures))))
