use Rattle.std.proofs.lemmas.Result.{err_from_is_err_and}
use Rattle.text.proofs.Writing.{byte_stopped}
use Rattle.streams.proofs.TooLong.{zeros_long, zeros_two}
use Rattle.streams.proofs.pour.put_zeros.Goals as goal

pub returns-in_err-p : goal.returns-in_err-p
returns-in_err-p c = let p = err_from_is_err_and c.from_residual.result c.from_residual.ensures.1 in rw (p.1, p.2) (byte_stopped _ _ _ _ _ c.in_err-p.was)

pub returns-then-room-n : goal.returns-then-room-n
returns-then-room-n c = zeros_long _ _ _ _ _ c.in_ok-p.was c.if-room-n.true

pub returns : goal.returns
returns c = zeros_two _ _ _ _ c.put_copies.ensures
