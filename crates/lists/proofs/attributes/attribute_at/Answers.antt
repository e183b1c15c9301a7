use borrow.Author.Rules.{rules}
use Rattle.lists.proofs.Turns.{attribute_whole}
use Rattle.lists.proofs.attributes.attribute_at.Goals as goal

pub returns : goal.returns
returns c = search (rules, attribute_whole)
