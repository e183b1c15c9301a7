use borrow.Author.Rules.{rules}
use Rattle.lists.proofs.Turns.{entry_whole}
use Rattle.lists.proofs.entries.entry_at.Goals as goal

pub returns : goal.returns
returns c = search (rules, entry_whole)
