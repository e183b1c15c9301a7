use Prim.Native.Nat.{◌-◌, ◌≤◌}
use mathlib.Core.Path.{◌≡◌}
use native.Mathlib.Omega.{arith}
use lib.ListN.{length, drop}
use borrow.Author.Rules.{rules}
use Rattle.utf8.specs.Text.{same_bytes}
use Rattle.unicode_forms.specs.Keys.{canonical, same_keys}
use Rattle.unicode_forms.specs.Stream.{letters}
use Rattle.keys.proofs.PrefixLaws.{prefix_starts, prefix_rest, prefix_stops, prefix_goes, shared_fits, shared_goes}
use Rattle.keys.proofs.compare.same_key.Statement.{statement}
use Rattle.keys.proofs.compare.same_key.Tie as tie

ruleset turns = (rules, prefix_starts, prefix_rest)

abbrev invariant-loop : tie.invariant-loop-at
invariant-loop a b caseless end at₀ at =
    (at ≤ length a) × ((end ≤ length a) × ((end ≤ length b) × (same_bytes (canonical (letters caseless (drop at a))) (canonical (letters caseless (drop at b))) ≡ same_keys caseless a b)))

abbrev decreases-loop : tie.decreases-loop-at
decreases-loop a b caseless end at₀ at = length a - at

pub same_key_spec : {M : Type 1} → statement M
same_key_spec =
    tie.close
    (tie.spec
    invariant-loop
    decreases-loop
    (λ c κs. search turns)
    (λ c. search turns)
    (λ c. search turns)
    (λ c. search turns)
    (λ c. search turns)
    (λ c. search turns)
    (λ c. search turns)
    (λ c. search turns)
    (λ c. search turns)
    (λ c. search turns)
    (λ c κs. search turns)
    (λ c κs. search turns)
    (λ c. search turns)
    (λ c. omega (arith, shared_fits c.args.caseless c.args.a.now c.args.b.now c.loop-at.at c.loop-at.at _ c.shared-n.ensures c.if-n-eq0.false (omega arith)))
    (λ c. omega (arith, shared_fits c.args.caseless c.args.a.now c.args.b.now c.loop-at.at c.loop-at.at _ c.shared-n.ensures c.if-n-eq0.false (omega arith)))
    (λ c. (omega (arith, shared_fits c.args.caseless c.args.a.now c.args.b.now c.loop-at.at c.loop-at.at _ c.shared-n.ensures c.if-n-eq0.false (omega arith)), (search turns, (search turns, shared_goes c.args.caseless c.args.a.now c.args.b.now c.loop-at.at c.loop-at.at _ c.shared-n.ensures c.if-n-eq0.false _ c.loop-at.invariant.1.1.1))))
    (λ c κs. search turns)
    (λ c κs. search turns)
    (λ c κs. search turns)
    (λ c. search turns)
    (λ c. prefix_stops c.args.caseless c.args.a.now c.args.b.now c.loop-at.at c.loop-at.at _ c.loop-at.invariant.1.1.1 (omega arith) (omega arith) c.if-x-gt127.false _ _ c.small_letter.ensures c.small_letter-in-loop-at.ensures c.if-y-gt127.false c.if-small_letter.true)
    (λ c. search turns)
    (λ c. search turns)
    (λ c. (omega arith, (search turns, (search turns, prefix_goes c.args.caseless c.args.a.now c.args.b.now c.loop-at.at c.loop-at.at _ c.loop-at.invariant.1.1.1 (omega arith) (omega arith) c.if-x-gt127.false _ _ c.small_letter.ensures c.small_letter-in-loop-at.ensures c.if-small_letter.false))))
    (λ c κs. search turns)
    (λ c. search turns))
