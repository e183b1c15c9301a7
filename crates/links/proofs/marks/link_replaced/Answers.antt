use Rattle.links.proofs.Counting.{link_counted}
use Rattle.links.proofs.marks.link_replaced.Goals as goal

pub returns-in-Ok : goal.returns-in-Ok
returns-in-Ok c = link_counted _ _ _ _ _ c.link_attribute-f.ensures _ _ c.in-Ok.is c.contents_replaced.ensures
