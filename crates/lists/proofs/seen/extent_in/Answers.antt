use Rattle.node.proofs.Places.{block_under}
use borrow.Author.Rules.{rules}
use Rattle.lists.proofs.Leaves.{extent_leaf}
use Rattle.lists.proofs.seen.extent_in.Goals as goal

pub extent_of-requires : goal.extent_of-requires
extent_of-requires c = search (rules, block_under)

pub returns-in-Leaf : goal.returns-in-Leaf
returns-in-Leaf c = search (rules, extent_leaf)
