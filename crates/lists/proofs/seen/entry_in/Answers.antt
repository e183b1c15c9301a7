use Rattle.node.proofs.Places.{block_under}
use borrow.Author.Rules.{rules}
use Rattle.lists.proofs.Leaves.{entry_leaf}
use Rattle.lists.proofs.seen.entry_in.Goals as goal

pub entry_of-requires : goal.entry_of-requires
entry_of-requires c = search (rules, block_under)

pub returns-in-Leaf : goal.returns-in-Leaf
returns-in-Leaf c = search (rules, entry_leaf)
