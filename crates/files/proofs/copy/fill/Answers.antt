use Rattle.std.proofs.Common.{rules, arith, length}
use Rattle.files.proofs.CopyTurns.{fills, fill_whole, fill_ends, fill_halt, fill_allows}
use Rattle.files.proofs.copy.fill.Goals as goal

pub returns-in-Over : goal.returns-in-Over
returns-in-Over c = fill_whole _ _ (length c.args.out.now) _ _ (c.fill.ensures.after (λ y h. h)) _ (fill_ends _ _ _ _ _ _ _ _ c.loop-s.invariant _ c.extent_in.ensures c.in-Over.is)

pub loop-s-preserved-in-Passed : goal.loop-s-preserved-in-Passed
loop-s-preserved-in-Passed c = search fills

pub returns-then-stop-e : goal.returns-then-stop-e
returns-then-stop-e c = fill_whole _ _ (length c.args.out.now) _ _ (c.fill.ensures.after (λ y h. h)) _ (search (rules, fill_halt))

pub lay_at-requires : goal.lay_at-requires
lay_at-requires c = (omega (arith, c.requires.0, c.loop-s.invariant.same), fill_allows _ _ _ _ _ _ _ _ c.loop-s.invariant _ c.extent_in.ensures _ _ c.in-Element.is (omega arith))

pub loop-s-preserved : goal.loop-s-preserved
loop-s-preserved c = search fills
