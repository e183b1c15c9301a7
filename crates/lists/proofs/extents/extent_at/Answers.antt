use borrow.Author.Rules.{rules}
use Rattle.lists.proofs.Turns.{extent_whole}
use Rattle.lists.proofs.extents.extent_at.Goals as goal

pub returns : goal.returns
returns c = search (rules, extent_whole)
