use Prim.Native.Nat.{◌-◌, ◌≤◌}
use mathlib.Core.Path.{◌≡◌}
use native.Mathlib.Omega.{arith}
use lib.ListN.{length, drop}
use borrow.Author.Rules.{rules}
use Rattle.unicode_forms.specs.Keys.{same_keys}
use Rattle.keys.specs.Told.{same_left}
use Rattle.keys.proofs.PrefixLaws.{prefix_starts, prefix_rest, beside_goes, beside_stops}
use Rattle.keys.proofs.matching.same_ascii.Statement.{statement}
use Rattle.keys.proofs.matching.same_ascii.Tie as tie

ruleset turns = (rules, prefix_starts, prefix_rest)

abbrev invariant-loop : tie.invariant-loop-at
invariant-loop part name caseless end at₀ at =
    (at ≤ length part) × ((end ≤ length part) × ((end ≤ length name) × (same_left caseless part name at at ≡ same_keys caseless part name)))

abbrev decreases-loop : tie.decreases-loop-at
decreases-loop part name caseless end at₀ at = length part - at

pub same_ascii_spec : {M : Type 1} → statement M
same_ascii_spec =
    tie.close
    (tie.spec
    invariant-loop
    decreases-loop
    (λ c κs. search turns)
    (λ c. search turns)
    (λ c. search turns)
    (λ c. search turns)
    (λ c κs. search turns)
    (λ c κs. search turns)
    (λ c κs. search turns)
    (λ c. search turns)
    (λ c. beside_stops c.args.caseless c.args.part.now c.args.name.now c.requires c.loop-at.at _ c.loop-at.invariant.1.1.1 (omega arith) (omega arith) _ _ c.small_letter.ensures c.small_letter-in-loop-at.ensures c.if-x-gt127.false c.if-small_letter.true)
    (λ c. search turns)
    (λ c. search turns)
    (λ c. (omega arith, (search turns, (search turns, beside_goes c.args.caseless c.args.part.now c.args.name.now c.requires c.loop-at.at _ c.loop-at.invariant.1.1.1 (omega arith) (omega arith) _ _ c.small_letter.ensures c.small_letter-in-loop-at.ensures c.if-small_letter.false))))
    (λ c κs. search turns)
    (λ c. search turns))
