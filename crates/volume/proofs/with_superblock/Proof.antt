use borrow.Author.Rules.{rules}
use Rattle.volume.specs.Inner.{map_first}
use Rattle.volume.proofs.Laws.{all}
use Rattle.volume.proofs.with_superblock.Statement.{statement}
use Rattle.volume.proofs.with_superblock.Tie as tie

pub with_superblock_spec : {M : Type 1} → statement M
unfolding map_first
with_superblock_spec =
    tie.close
    (tie.spec
    (λ c κs. search rules)
    (λ c. search rules)
    (λ c κs. search rules)
    (λ c. search rules)
    (λ c. search all)
    (λ c. search all))
