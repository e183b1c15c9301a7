use mathlib.Core.Path.{◌∙◌}
use Rattle.std.proofs.lemmas.Result.{err_from_is_err_and}
use Rattle.text.proofs.Writing.{byte_stopped}
use Rattle.streams.proofs.Pouring.{pour_end, pour_no, pour_passed, pour_got, pour_broken, pour_done}
use Rattle.streams.proofs.pour.put_stream_from.Goals as goal

pub returns-in_err-at : goal.returns-in_err-at
returns-in_err-at c = let p = err_from_is_err_and c.from_residual.result c.from_residual.ensures.1 in rw (p.1, p.2) (byte_stopped _ _ _ _ _ c.in_err-at.was)

pub returns-in-Over : goal.returns-in-Over
returns-in-Over c = pour_done _ _ c.args.v _ _ _ _ _ _ c.search-q.ensures (pour_end _ _ _ _ _ _ _ _ _ c.extent_in.ensures _ _ _ c.loop-out.invariant.0 _ _ c.in-Over.is c.saturating_sub.ensures c.put_zeros.ensures)

pub returns-in-Refused : goal.returns-in-Refused
returns-in-Refused c = pour_done _ _ c.args.v _ _ _ _ _ _ c.search-q.ensures (pour_no _ _ _ _ _ _ _ _ _ c.extent_in.ensures _ _ _ c.loop-out.invariant.0 _ c.in-Refused.is)

pub loop-out-preserved-in-Passed : goal.loop-out-preserved-in-Passed
loop-out-preserved-in-Passed c = (pour_passed _ _ _ _ _ _ _ _ _ c.extent_in.ensures _ _ _ c.loop-out.invariant.0 _ c.in-Passed.is c.next-s.ensures, c.loop-out.invariant.1)

pub returns-in_err-at-in-Element : goal.returns-in_err-at-in-Element
returns-in_err-at-in-Element c = let p = err_from_is_err_and c.from_residual-in_err-at-in-Element.result c.from_residual-in_err-at-in-Element.ensures.1 in rw (p.1, p.2) (pour_done _ _ c.args.v _ _ _ _ _ _ c.search-q.ensures (pour_broken _ _ _ _ _ _ _ _ _ c.extent_in.ensures _ _ _ c.loop-out.invariant.0 _ _ _ _ c.in-Element.is c.put_step.ensures _ c.in_err-at-in-Element.was))

pub loop-out-preserved : goal.loop-out-preserved
loop-out-preserved c = (pour_got _ _ _ _ _ _ _ _ _ c.extent_in.ensures _ _ _ c.loop-out.invariant.0 _ _ _ _ c.in-Element.is c.put_step.ensures _ _ c.next_pos-pos.ensures c.in_ok-at-in-Element.was, c.put_step.auto.out ∙ c.loop-out.invariant.1)
