use Rattle.std.proofs.Common.{rules}
use Rattle.wrong_word.proofs.Laws.{found_in_lem}
use Rattle.wrong_word.proofs.gap_in.Goals as goal

pub returns : goal.returns
returns c = search (rules, found_in_lem)
