use borrow.Author.Rules.{rules}
use Rattle.keys.proofs.characters.by_piece.Statement.{statement}
use Rattle.keys.proofs.characters.by_piece.Tie as tie
use Rattle.keys.proofs.Scalars.{piece_fits, at_end, at_whole, at_part}

ruleset turns = (rules, piece_fits, at_end, at_whole, at_part)

pub by_piece_spec : {M : Type 1} → statement M
by_piece_spec =
    tie.close
    (tie.spec
    (λ c κs. search turns)
    (λ c. search turns)
    (λ c. search turns)
    (λ c κs. search turns)
    (λ c. search turns)
    (λ c. search turns)
    (λ c. search turns)
    (λ c. search turns))
