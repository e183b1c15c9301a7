use Rattle.std.proofs.lemmas.Result.{err_from_is_err_and}
use native.Mathlib.Omega.{arith}
use Rattle.text.proofs.Writing.{byte_stopped}
use Rattle.text.proofs.Loops.{copied, text_past, text_stored}
use Rattle.text.proofs.put_all.Goals as goal

pub returns-in_err-n : goal.returns-in_err-n
returns-in_err-n c = let p = err_from_is_err_and c.from_residual.result c.from_residual.ensures.1 in rw (p.1, p.2) (byte_stopped _ _ _ _ _ c.in_err-n.was)

pub returns-in-Past : goal.returns-in-Past
returns-in-Past c = let w = rw c.in-Past.is at c.way_of.ensures in text_past _ _ _ _ c.in_ok-n.was (omega (arith, w.0)) _ (omega (arith, w.0)) w.1

pub returns-in-Stored : goal.returns-in-Stored
returns-in-Stored c = let w = rw c.in-Stored.is at c.way_of.ensures in text_stored _ _ _ _ c.in_ok-n.was (omega (arith, w.0)) _ (omega (arith, w.0)) _ (copied _ _ _ _ _ (omega arith) c.copy.ensures (omega (arith, w.1)))
