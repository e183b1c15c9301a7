use borrow.Author.Rules.{rules}
use mathlib.Core.Path.{◌≡◌}
use lib.ListN.{length, drop}
use Rattle.keys.proofs.compare.same_but.Statement.{statement}
use Rattle.keys.proofs.compare.same_but.Tie as tie
use Rattle.utf8.specs.Text.{same_bytes}
use Rattle.unicode_forms.specs.Stream.{letters, without}
use Rattle.keys.specs.Told.{left_of}
use Rattle.keys.proofs.StreamLaws.{compare_starts, both_end, right_longer, left_longer, letters_differ, letters_agree, letters_less}

ruleset turns = (rules, compare_starts, both_end, right_longer, left_longer, letters_differ, letters_agree, letters_less)

abbrev invariant-loop : tie.invariant-loop-x
invariant-loop a b caseless i j class p₀ q₀ p q =
    same_bytes (without class (left_of caseless a p)) (without class (left_of caseless b q)) ≡ same_bytes (without class (letters caseless (drop i a))) (without class (letters caseless (drop j b)))

abbrev decreases-loop : tie.decreases-loop-x
decreases-loop a b caseless i j class p₀ q₀ p q = length (without class (left_of caseless a p))

pub same_but_spec : {M : Type 1} → statement M
same_but_spec =
    tie.close
    (tie.spec
    invariant-loop
    decreases-loop
    (λ c. search turns)
    (λ c κs. search turns)
    (λ c. search turns)
    (λ c κs. search turns)
    (λ c. search turns)
    (λ c. search turns)
    (λ c. search turns)
    (λ c. search turns)
    (λ c. search turns)
    (λ c κs. search turns)
    (λ c. search turns)
    (λ c. search turns)
    (λ c. search turns)
    (λ c. search turns)
    (λ c. search turns)
    (λ c. search turns))
