use Prim.Native.Nat.{◌≤◌, ◌-◌}
use lib.ListN.{length}
use borrow.Author.Rules.{rules}
use Rattle.vectors.proofs.texts.show_pieces.Statement.{statement}
use Rattle.vectors.proofs.texts.show_pieces.Tie as tie

abbrev invariant-loop : tie.invariant-loop-at
invariant-loop text at₀ at = at ≤ length text

abbrev decreases-loop : tie.decreases-loop-at
decreases-loop text at₀ at = length text - at

pub show_pieces_spec : {M : Type 1} → statement M
show_pieces_spec =
    tie.close
    (tie.spec
    invariant-loop
    decreases-loop
    (λ c. search rules)
    (λ c κs. search rules)
    (λ c. search rules)
    (λ c. search rules)
    (λ c. search rules))
