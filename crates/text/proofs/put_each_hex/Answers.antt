use Rattle.std.proofs.lemmas.Result.{err_from_is_err_and}
use borrow.Author.Rules.{rules}
use Rattle.text.proofs.Writing.{got, byte_stopped}
use Rattle.text.proofs.Loops.{pairs_end, pairs_got, pairs_refused}
use Rattle.text.proofs.put_each_hex.Goals as goal

pub returns-in_err-n : goal.returns-in_err-n
returns-in_err-n c = let p = err_from_is_err_and c.from_residual.result c.from_residual.ensures.1 in rw (p.1, p.2) (byte_stopped _ _ _ _ _ c.in_err-n.was)

pub loop-x-init : goal.loop-x-init
loop-x-init c = (got _ _ _ _ _ c.in_ok-n.was, search rules)

pub returns-in_err-n-2 : goal.returns-in_err-n-2
returns-in_err-n-2 c = let p = err_from_is_err_and c.from_residual-in_err-n-2.result c.from_residual-in_err-n-2.ensures.1 in rw (p.1, p.2) (pairs_refused _ _ _ _ _ c.loop-x.invariant.0 _ _ _ _ _ c.loop-x-test.true c.hex_digit.ensures c.put_byte-high.ensures c.hex_digit-in-loop-x.ensures c.put_byte.ensures _ c.in_err-n-2.was)

pub loop-x-preserved : goal.loop-x-preserved
loop-x-preserved c = (pairs_got _ _ _ _ _ c.loop-x.invariant.0 _ _ _ _ _ c.loop-x-test.true c.hex_digit.ensures c.put_byte-high.ensures c.hex_digit-in-loop-x.ensures c.put_byte.ensures _ c.in_ok-n-2.was, search rules)

pub returns : goal.returns
returns c = pairs_end _ _ _ _ _ c.loop-x.invariant.0 c.loop-x-test.false
