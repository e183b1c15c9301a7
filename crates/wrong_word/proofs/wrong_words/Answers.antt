-- The bytes of the list are 12 an entry.
use Rattle.std.proofs.lemmas.Result.{err_from_is_err_and}
use Rattle.wrong_word.proofs.Counting.{entries_in_lem, entries_short}
use Rattle.wrong_word.proofs.wrong_words.Goals as goal

pub returns-in_err-n : goal.returns-in_err-n
returns-in_err-n c = let p = err_from_is_err_and c.from_residual.result c.from_residual.ensures.1 in rw (p.1, p.2) (entries_short _ _ _ _ c.put_list.ensures _ c.in_err-n.was)

pub returns : goal.returns
returns c = entries_in_lem _ _ _ _ c.put_list.ensures _ c.in_ok-n.was
