use Rattle.node.proofs.Places.{block_under}
use borrow.Author.Rules.{rules}
use Rattle.lists.proofs.Leaves.{attribute_leaf}
use Rattle.lists.proofs.seen.attribute_in.Goals as goal

pub attribute_of-requires : goal.attribute_of-requires
attribute_of-requires c = search (rules, block_under)

pub returns-in-Leaf : goal.returns-in-Leaf
returns-in-Leaf c = search (rules, attribute_leaf)
