use Prim.Native.Nat.{◌≤◌}
use mathlib.Core.Path.{refl}
use borrow.Author.Rules.{rules}
use Rattle.cursor.proofs.Ways.{Led, led_high, led_root, led_low, led_here, led_leaf, led_child}
use Rattle.cursor.proofs.way.way_down.Statement.{statement}
use Rattle.cursor.proofs.way.way_down.Tie as tie

abbrev invariant-loop : tie.invariant-loop-m
invariant-loop image q nodes m₀ level₀ c₀ n₀ m level c n = (level ≤ 32) × Led image q nodes level m c n

abbrev decreases-loop : tie.decreases-loop-m
decreases-loop image q nodes m₀ level₀ c₀ n₀ m level c n = level

ruleset all = (rules, led_high, led_root, led_low, led_here, led_leaf, led_child)

pub way_down_spec : {M : Type 1} → statement M
way_down_spec =
    tie.close
    (tie.spec
    invariant-loop
    decreases-loop
    (λ c κs. search all)
    (λ c κs. search all)
    (λ c κs. search all)
    (λ c. search all)
    (λ c. search all)
    (λ c κs. search all)
    (λ c κs. search all)
    (λ c. search all)
    (λ c κs. search all)
    (λ c. search all)
    (λ c κs. search all)
    (λ c. search all)
    (λ c. search all)
    (λ c κs. search all)
    (λ c. search all)
    (λ c κs. search all)
    (λ c. search all)
    (λ c. search all)
    (λ c. (search rules, led_child _ _ _ _ _ _ _ c.loop-m.invariant.1 _ _ _ _ (search rules) c.next_child-t.ensures c.in-Into.is (search rules) (search rules) refl c.put-c.ensures))
    (λ c. search all)
    (λ c κs. search all)
    (λ c. search all)
    (λ c. search all)
    (λ c κs. search all)
    (λ c. search all)
    (λ c. search all)
    (λ c κs. search all)
    (λ c. search all))
