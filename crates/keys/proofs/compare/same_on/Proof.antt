use mathlib.Core.Path.{◌≡◌}
use lib.ListN.{length, drop}
use borrow.Author.Rules.{rules}
use Rattle.unicode_forms.specs.Stream.{letters}
use Rattle.keys.specs.Told.{same_left}
use Rattle.keys.proofs.PrefixLaws.{prefix_rest, on_apart, on_goes, on_less}
use Rattle.keys.proofs.compare.same_on.Statement.{statement}
use Rattle.keys.proofs.compare.same_on.Tie as tie

ruleset turns = (rules, prefix_rest, on_apart, on_goes, on_less)

abbrev invariant-loop : tie.invariant-loop-k
invariant-loop a b caseless at i₀ j₀ i j = same_left caseless a b i j ≡ same_left caseless a b at at

abbrev decreases-loop : tie.decreases-loop-k
decreases-loop a b caseless at i₀ j₀ i j = length (letters caseless (drop i a))

pub same_on_spec : {M : Type 1} → statement M
same_on_spec =
    tie.close
    (tie.spec
    invariant-loop
    decreases-loop
    (λ c. search turns)
    (λ c κs. search turns)
    (λ c. search turns)
    (λ c κs. search turns)
    (λ c. search turns)
    (λ c. search turns)
    (λ c. search turns)
    (λ c. search turns)
    (λ c. search turns)
    (λ c. search turns))
