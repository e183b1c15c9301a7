use borrow.Author.Rules.{rules}
use Rattle.leaves.proofs.Laws.{all}
use Rattle.leaves.proofs.texts.leaf_piece.Statement.{statement}
use Rattle.leaves.proofs.texts.leaf_piece.Tie as tie

pub leaf_piece_spec : {M : Type 1} → statement M
leaf_piece_spec =
    tie.close
    (tie.spec
    (λ c κs. search rules)
    (λ c. search rules)
    (λ c. search rules)
    (λ c. search rules)
    (λ c. search all)
    (λ c. search all)
    (λ c. search all)
    (λ c. search all))
