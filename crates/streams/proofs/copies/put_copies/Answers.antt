use Rattle.std.proofs.Common.{rules}
use Rattle.std.proofs.lemmas.Result.{err_from_is_err_and}
use Prim.Native.Nat.{◌-◌}
use native.Mathlib.Omega.{arith}
use Rattle.text.proofs.Writing.{byte_stopped}
use Rattle.streams.proofs.TooLong.{copies_stored, copies_none, copies_long, copies_fit}
use Rattle.streams.proofs.copies.put_copies.Goals as goal

pub returns-in_err-at : goal.returns-in_err-at
returns-in_err-at c = let p = err_from_is_err_and c.from_residual.result c.from_residual.ensures.1 in rw (p.1, p.2) (byte_stopped _ _ _ _ _ c.in_err-at.was)

pub returns-then-saturating_sub-n : goal.returns-then-saturating_sub-n
returns-then-saturating_sub-n c = copies_long _ _ _ _ _ _ c.in_ok-at.was (omega arith)

pub returns-then-at-stored : goal.returns-then-at-stored
returns-then-at-stored c = copies_fit _ _ _ _ _ _ c.in_ok-at.was (omega arith) _ (copies_stored c.args.out.now c.in_ok-at.at c.args.n c.args.b c.fill.new.self (c.min-stored.result - c.in_ok-at.at) (omega arith) (omega arith) (search rules))

pub returns-else-at-stored : goal.returns-else-at-stored
returns-else-at-stored c = copies_fit _ _ _ _ _ _ c.in_ok-at.was (omega arith) _ (copies_none c.args.out.now c.in_ok-at.at c.args.n c.args.b (omega arith))
