use Prim.Native.Nat.{◌-◌}
use mathlib.Core.Path.{◌≡◌, refl}
use native.Mathlib.Omega.{arith}
use borrow.Author.Rules.{rules}
use Rattle.cursor.specs.Left.{left}
use Rattle.cursor.proofs.Left.{final, made_passed, made_no, whole_run, left_done, level_no, level_known, level_passed, level_kept}
use Rattle.cursor.proofs.steps.next.Statement.{statement}
use Rattle.cursor.proofs.steps.next.Tie as tie

abbrev invariant-loop : tie.invariant-loop-l
invariant-loop image q c level nodes top l₀ n₀ l n = left image q c l n ≡ left image q c level nodes

abbrev decreases-loop : tie.decreases-loop-l
decreases-loop image q c level nodes top l₀ n₀ l n = top - l

pub next_spec : {M : Type 1} → statement M
next_spec =
    tie.close
    (tie.spec
    invariant-loop
    decreases-loop
    (λ c κs. search rules)
    (λ c. refl)
    (λ c. omega (arith, c.top_of-top.ensures, c.loop-l-test.true))
    (λ c κs. omega (arith, c.top_of-top.ensures, c.loop-l-test.true))
    (λ c κs. search rules)
    (λ c. search rules)
    (λ c κs. search rules)
    (λ c κs. search rules)
    (λ c. whole_run _ _ _ _ _ c.whole.ensures (made_no _ _ _ _ _ _ _ _ _ _ c.part_step.ensures (level_no _ _ _ _ _ _ c.loop-l.invariant _ (omega (arith, c.top_of-top.ensures, c.loop-l-test.true)) c.mark_of-k.ensures _ c.node_on.ensures _ c.in-Err.is)))
    (λ c. search rules)
    (λ c κs. (omega (arith, c.top_of-top.ensures, c.loop-l-test.true), level_known _ _ _ _ _ _ c.loop-l.invariant _ (omega (arith, c.top_of-top.ensures, c.loop-l-test.true)) c.mark_of-k.ensures _ c.node_on.ensures _ c.in-Ok.is))
    (λ c. search rules)
    (λ c κs. search rules)
    (λ c. whole_run _ _ _ _ _ c.whole-in-At.ensures (level_kept _ _ _ _ _ _ c.loop-l.invariant _ (omega (arith, c.top_of-top.ensures, c.loop-l-test.true)) c.mark_of-k.ensures _ c.node_on.ensures _ c.in-Ok.is _ c.walk_from-s.ensures _ (search final)))
    (λ c. search rules)
    (λ c. omega (arith, c.top_of-top.ensures, c.loop-l-test.true))
    (λ c. level_passed _ _ _ _ _ _ c.loop-l.invariant _ (omega (arith, c.top_of-top.ensures, c.loop-l-test.true)) c.mark_of-k.ensures _ c.node_on.ensures _ c.in-Ok.is _ c.walk_from-s.ensures (search rules))
    (λ c. search rules)
    (λ c κs. search rules)
    (λ c. whole_run _ _ _ _ _ c.whole-in-End.ensures (level_kept _ _ _ _ _ _ c.loop-l.invariant _ (omega (arith, c.top_of-top.ensures, c.loop-l-test.true)) c.mark_of-k.ensures _ c.node_on.ensures _ c.in-Ok.is _ c.walk_from-s.ensures _ (search final)))
    (λ c. search rules)
    (λ c κs. search rules)
    (λ c. whole_run _ _ _ _ _ c.whole-in-No.ensures (level_kept _ _ _ _ _ _ c.loop-l.invariant _ (omega (arith, c.top_of-top.ensures, c.loop-l-test.true)) c.mark_of-k.ensures _ c.node_on.ensures _ c.in-Ok.is _ c.walk_from-s.ensures _ (search final)))
    (λ c κs. search rules)
    (λ c κs. search rules)
    (λ c. whole_run _ _ _ _ _ c.whole-2.ensures (made_passed _ _ _ _ _ _ _ _ _ c.part_step-2.ensures (left_done _ _ _ _ _ _ c.loop-l.invariant (omega (arith, c.top_of-top.ensures, c.loop-l-test.false))))))
