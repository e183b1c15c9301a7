use Rattle.std.proofs.lemmas.Result.{err_from_is_err_and}
use borrow.Author.Rules.{rules}
use Rattle.text.proofs.Writing.{got, byte_stopped}
use Rattle.text.proofs.Loops.{bytes_end, bytes_got, bytes_refused}
use Rattle.text.proofs.put_each.Goals as goal

pub returns-in_err-n : goal.returns-in_err-n
returns-in_err-n c = let p = err_from_is_err_and c.from_residual.result c.from_residual.ensures.1 in rw (p.1, p.2) (byte_stopped _ _ _ _ _ c.in_err-n.was)

pub loop-b-init : goal.loop-b-init
loop-b-init c = (got _ _ _ _ _ c.in_ok-n.was, search rules)

pub returns-in_err-n-2 : goal.returns-in_err-n-2
returns-in_err-n-2 c = let p = err_from_is_err_and c.from_residual-in_err-n-2.result c.from_residual-in_err-n-2.ensures.1 in rw (p.1, p.2) (bytes_refused _ _ _ _ _ c.loop-b.invariant.0 _ _ _ c.loop-b-test.true c.put_byte.ensures c.in_err-n-2.was)

pub loop-b-preserved : goal.loop-b-preserved
loop-b-preserved c = (bytes_got _ _ _ _ _ c.loop-b.invariant.0 _ _ _ c.loop-b-test.true c.put_byte.ensures c.in_ok-n-2.was, search rules)

pub returns : goal.returns
returns c = bytes_end _ _ _ _ _ c.loop-b.invariant.0 c.loop-b-test.false
