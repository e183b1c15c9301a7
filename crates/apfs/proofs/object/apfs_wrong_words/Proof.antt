use borrow.Author.Rules.{rules}
use Rattle.results.proofs.Mends.{mends}
use Rattle.apfs.proofs.object.apfs_wrong_words.Statement.{statement}
use Rattle.apfs.proofs.object.apfs_wrong_words.Tie as tie

pub apfs_wrong_words_spec : {M : Type 1} → statement M
apfs_wrong_words_spec =
    tie.close
    (tie.spec
    (λ c κs. search rules)
    (λ c κs. search mends)
    (λ c. search rules)
    (λ c. search mends))
