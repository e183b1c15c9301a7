use borrow.Author.Rules.{rules}
use Rattle.nx.specs.Volume.{volume_superblock}
use Rattle.nx.proofs.Laws.{all}
use Rattle.nx.proofs.volume.volume_superblock.Statement.{statement}
use Rattle.nx.proofs.volume.volume_superblock.Tie as tie

pub volume_superblock_spec : {M : Type 1} → statement M
unfolding volume_superblock
volume_superblock_spec =
    tie.close
    (tie.spec
    (λ c κs. search rules)
    (λ c. search rules)
    (λ c κs. search rules)
    (λ c. search rules)
    (λ c. search all)
    (λ c. search all))
