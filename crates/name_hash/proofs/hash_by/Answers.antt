use Rattle.std.proofs.Common.{arith}
use Rattle.std.proofs.lemmas.Result.{err_from_is_err_and}
use Rattle.name_hash.proofs.Laws.{hash_goes, hash_stops}
use Rattle.name_hash.proofs.hash_by.Goals as goal

pub returns-in_err-fold_case : goal.returns-in_err-fold_case
returns-in_err-fold_case c =
    let p = err_from_is_err_and c.from_residual.result c.from_residual.ensures.1 in
    let i = c.loop-x.x-index in
    rw (p.1, p.2)
    (hash_stops c.args.insensitive c.args.name.now i _ _ c.loop-x.invariant c.fold_case.result _ (omega arith) c.fold_case.ensures c.in_err-fold_case.was)

pub loop-x-preserved : goal.loop-x-preserved
loop-x-preserved c =
    let i = c.loop-x.x-index in
    hash_goes c.args.insensitive c.args.name.now i _ _ c.loop-x.invariant c.fold_case.result _ _ (omega arith) c.fold_case.ensures c.in_ok-fold_case.was c.character_step-c.ensures
