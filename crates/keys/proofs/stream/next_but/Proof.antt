use borrow.Author.Rules.{rules}
use mathlib.Core.Path.{◌≡◌}
use lib.ListN.{length}
use Rattle.keys.proofs.stream.next_but.Statement.{statement}
use Rattle.keys.proofs.stream.next_but.Tie as tie
use Rattle.unicode_forms.specs.Stream.{without}
use Rattle.keys.specs.Told.{left_of}
use Rattle.keys.proofs.StreamLaws.{but_end, but_stops, but_goes, but_less}

ruleset turns = (rules, but_end, but_stops, but_goes, but_less)

abbrev invariant-loop : tie.invariant-loop-x
invariant-loop b caseless class cursor₀ cursor = without class (left_of caseless b cursor) ≡ without class (left_of caseless b cursor₀)

abbrev decreases-loop : tie.decreases-loop-x
decreases-loop b caseless class cursor₀ cursor = length (left_of caseless b cursor)

pub next_but_spec : {M : Type 1} → statement M
next_but_spec =
    tie.close
    (tie.spec
    invariant-loop
    decreases-loop
    (λ c. search turns)
    (λ c κs. search turns)
    (λ c. search turns)
    (λ c. search turns)
    (λ c. search turns)
    (λ c κs. search turns)
    (λ c. search turns)
    (λ c. search turns)
    (λ c. search turns))
