use Prim.Native.Nat.{◌-◌, ◌≤◌}
use mathlib.Core.Path.{◌≡◌}
use native.Mathlib.Omega.{arith}
use lib.ListN.{length, drop}
use borrow.Author.Rules.{rules}
use Rattle.unicode_forms.specs.Keys.{covered_text}
use Rattle.keys.proofs.AsciiLaws.{covers_ascii}
use Rattle.keys.proofs.RangeLaws.{covers_fits, covers_done, covers_end, covers_some, covers_stops, covers_goes}
use Rattle.keys.proofs.ranges.each_covered.Statement.{statement}
use Rattle.keys.proofs.ranges.each_covered.Tie as tie

ruleset turns = (rules, covers_ascii, covers_fits, covers_done, covers_end, covers_some, covers_stops, covers_goes)

abbrev invariant-loop : tie.invariant-loop-at
invariant-loop b at₀ at = (at ≤ length b) × (covered_text (drop at b) ≡ covered_text b)

abbrev decreases-loop : tie.decreases-loop-at
decreases-loop b at₀ at = length b - at

pub each_covered_spec : {M : Type 1} → statement M
each_covered_spec =
    tie.close
    (tie.spec
    invariant-loop
    decreases-loop
    (λ c. search turns)
    (λ c. search turns)
    (λ c. search turns)
    (λ c. search turns)
    (λ c. search turns)
    (λ c. search turns)
    (λ c. search turns)
    (λ c. search turns)
    (λ c κs. search turns)
    (λ c. search turns)
    (λ c. search turns)
    (λ c. search turns)
    (λ c κs. search turns)
    (λ c. search turns)
    (λ c. omega (arith, covers_fits c.args.b.now c.loop-at.at _ c.loop-at.invariant.1 _ c.character_at.ensures _ _ c.in-At.is c.loop-at-test.true))
    (λ c. omega (arith, covers_fits c.args.b.now c.loop-at.at _ c.loop-at.invariant.1 _ c.character_at.ensures _ _ c.in-At.is c.loop-at-test.true, covers_some c.args.b.now c.loop-at.at _ c.loop-at.invariant.1 _ c.character_at.ensures _ _ c.in-At.is))
    (λ c. (omega (arith, covers_fits c.args.b.now c.loop-at.at _ c.loop-at.invariant.1 _ c.character_at.ensures _ _ c.in-At.is c.loop-at-test.true), covers_goes c.args.b.now c.loop-at.at _ c.loop-at.invariant.1 _ c.character_at.ensures _ _ c.in-At.is _ c.is_covered.ensures c.if-not-is_covered.false-raw))
    (λ c. search turns))
