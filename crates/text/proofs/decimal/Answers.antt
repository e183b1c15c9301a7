use native.Mathlib.Omega.{arith}
use borrow.Author.Rules.{rules}
use Rattle.text.proofs.Numerals.{left_again, left_last}
use Rattle.text.proofs.decimal.Goals as goal

pub loop-m-preserved : goal.loop-m-preserved
loop-m-preserved c = search (rules, left_again)

pub returns : goal.returns
returns c = left_last _ _ _ _ c.loop-m.invariant (omega (arith, c.loop-m-test.false))
