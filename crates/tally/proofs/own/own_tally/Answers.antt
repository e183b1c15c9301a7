use Rattle.tally.proofs.Counting.{own_told}
use Rattle.tally.proofs.own.own_tally.Goals as goal

pub returns : goal.returns
returns c = own_told _ _ _ _ _ _ _ c.list_on-attributes.ensures c.shown_size.ensures c.shown_size.type_inv c.count_attributes.ensures
