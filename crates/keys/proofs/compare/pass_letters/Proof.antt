use Prim.Native.Nat.{◌≤◌}
use mathlib.Core.Path.{◌≡◌}
use native.Mathlib.Omega.{arith}
use lib.ListN.{length, drop}
use borrow.Author.Rules.{rules}
use Rattle.utf8.specs.Text.{same_bytes}
use Rattle.unicode_forms.specs.Keys.{canonical}
use Rattle.unicode_forms.specs.Stream.{letters}
use Rattle.keys.specs.Told.{left_of, same_left}
use Rattle.keys.proofs.PrefixLaws.{pass_starts, left_starts, letter_goes, letter_less, letter_to}
use Rattle.keys.proofs.compare.pass_letters.Statement.{statement}
use Rattle.keys.proofs.compare.pass_letters.Tie as tie

ruleset turns = (rules, pass_starts, left_starts, letter_goes, letter_less, letter_to)

abbrev invariant-loop : tie.invariant-loop-x
invariant-loop a b caseless i j p₀ q₀ p q =
    (same_bytes (canonical (left_of caseless a p)) (canonical (left_of caseless b q)) ≡ same_left caseless a b i j) × (length (left_of caseless a p) ≤ length (letters caseless (drop i a)))

abbrev decreases-loop : tie.decreases-loop-x
decreases-loop a b caseless i j p₀ q₀ p q = length (left_of caseless a p)

pub pass_letters_spec : {M : Type 1} → statement M
pass_letters_spec =
    tie.close
    (tie.spec
    invariant-loop
    decreases-loop
    (λ c. search turns)
    (λ c κs. search turns)
    (λ c. search turns)
    (λ c. search turns)
    (λ c. search turns)
    (λ c κs. search turns)
    (λ c. search turns)
    (λ c. search turns)
    (λ c. search turns)
    (λ c. search turns)
    (λ c κs. search turns)
    (λ c. search turns)
    (λ c. search turns)
    (λ c. (letter_goes c.args.caseless c.args.a.now c.args.b.now c.args.i c.args.j c.loop-x.p c.loop-x.q _ _ c.next_letter.ensures c.next_letter-in-Letter.ensures c.loop-x.invariant.0 c.loop-x.invariant.1 _ _ _ _ c.in-Letter.is c.in-Letter-next_letter.is c.if-x-y.false, omega (arith, letter_less c.args.caseless c.args.a.now c.args.b.now c.args.i c.args.j c.loop-x.p c.loop-x.q _ _ c.next_letter.ensures c.next_letter-in-Letter.ensures c.loop-x.invariant.0 c.loop-x.invariant.1 _ _ _ _ c.in-Letter.is c.in-Letter-next_letter.is c.if-x-y.false, c.loop-x.invariant.1))))
