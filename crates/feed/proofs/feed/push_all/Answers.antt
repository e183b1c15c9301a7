use mathlib.Core.Path.{refl}
use borrow.Author.Rules.{rules}
use Rattle.feed.proofs.Feeding.{none_count, none_fit, byte_came, all_came}
use Rattle.feed.proofs.feed.push_all.Goals as goal
use Rattle.feed.proofs.feed.push_all.Goals.{then-g-via-then-g, then-g-via-else-g+then-is_err}

pub loop-b-init : goal.loop-b-init
loop-b-init c = (λ xs. refl, search rules)

pub returns-then-g : goal.returns-then-g
returns-then-g c =
    elim c.then-g.branch [ then-g-via-then-g w ↦ λ xs. none_count _ c.args.bytes.now c.loop-b.b-index _ _ _ _ (c.loop-b.invariant.0 xs) w.if-g.true | then-g-via-else-g+then-is_err w ↦ λ xs. none_fit _ c.args.bytes.now c.loop-b.b-index _ _ _ _ (c.loop-b.invariant.0 xs) (search rules) ]

pub loop-b-preserved : goal.loop-b-preserved
loop-b-preserved c = (λ xs. byte_came _ _ _ _ _ _ _ (c.loop-b.invariant.0 xs) _ _ c.loop-b-test.true c.push-g.ensures, search rules)

pub returns : goal.returns
returns c = λ xs. all_came _ _ _ _ _ _ _ (c.loop-b.invariant.0 xs) c.loop-b-test.false
