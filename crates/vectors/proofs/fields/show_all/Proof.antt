use Prim.Native.Nat.{◌≤◌, ◌-◌}
use borrow.Author.Rules.{rules}
use Rattle.vectors.proofs.fields.show_all.Statement.{statement}
use Rattle.vectors.proofs.fields.show_all.Tie as tie

abbrev invariant-loop : tie.invariant-loop-off
invariant-loop width off₀ off = off ≤ 12

abbrev decreases-loop : tie.decreases-loop-off
decreases-loop width off₀ off = 12 - off

pub show_all_spec : {M : Type 1} → statement M
show_all_spec =
    tie.close
    (tie.spec
    invariant-loop
    decreases-loop
    (λ c. search rules)
    (λ c κs. search rules)
    (λ c. search rules)
    (λ c. search rules)
    (λ c. search rules)
    (λ c κs. search rules)
    (λ c. search rules))
