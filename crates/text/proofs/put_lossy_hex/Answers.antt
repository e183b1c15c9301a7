use Rattle.std.proofs.lemmas.Result.{err_from_is_err_and}
use borrow.Author.Rules.{rules}
use Rattle.text.proofs.Writing.{got, byte_stopped}
use Rattle.text.proofs.Loops.{lossy_end, whole_got, part_got, whole_refused, part_refused}
use Rattle.text.proofs.put_lossy_hex.Goals as goal

pub returns-in_err-n : goal.returns-in_err-n
returns-in_err-n c = let p = err_from_is_err_and c.from_residual.result c.from_residual.ensures.1 in rw (p.1, p.2) (byte_stopped _ _ _ _ _ c.in_err-n.was)

pub loop-len-init : goal.loop-len-init
loop-len-init c = (got _ _ _ _ _ c.in_ok-n.was, search rules)

pub returns-in_err-n-in-WellFormed : goal.returns-in_err-n-in-WellFormed
returns-in_err-n-in-WellFormed c = let p = err_from_is_err_and c.from_residual-in_err-n-in-WellFormed.result c.from_residual-in_err-n-in-WellFormed.ensures.1 in rw (p.1, p.2) (whole_refused _ _ _ _ c.loop-len.invariant.0 _ c.next.ensures _ _ _ _ c.in-WellFormed.is c.put_hex-in-WellFormed.ensures c.in_err-n-in-WellFormed.was)

pub loop-len-preserved-in-WellFormed : goal.loop-len-preserved-in-WellFormed
loop-len-preserved-in-WellFormed c = (whole_got _ _ _ _ c.loop-len.invariant.0 _ c.next.ensures _ _ _ _ c.in-WellFormed.is c.put_hex-in-WellFormed.ensures c.in_ok-n-in-WellFormed.was, search rules)

pub returns-in_err-n-in-IllFormed : goal.returns-in_err-n-in-IllFormed
returns-in_err-n-in-IllFormed c = let p = err_from_is_err_and c.from_residual-in_err-n-in-IllFormed.result c.from_residual-in_err-n-in-IllFormed.ensures.1 in rw (p.1, p.2) (part_refused _ _ _ _ c.loop-len.invariant.0 _ c.next.ensures _ _ _ _ c.in-IllFormed.is c.put_hex-in-IllFormed.ensures c.in_err-n-in-IllFormed.was)

pub loop-len-preserved : goal.loop-len-preserved
loop-len-preserved c = (part_got _ _ _ _ c.loop-len.invariant.0 _ c.next.ensures _ _ _ _ c.in-IllFormed.is c.put_hex-in-IllFormed.ensures c.in_ok-n-in-IllFormed.was, search rules)

pub returns-in-End : goal.returns-in-End
returns-in-End c = lossy_end _ _ _ _ c.loop-len.invariant.0 _ c.next.ensures c.in-End.is
