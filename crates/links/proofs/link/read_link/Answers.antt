use Rattle.links.proofs.Answers.{link_at}
use Rattle.links.proofs.link.read_link.Goals as goal

pub returns-in-Ok : goal.returns-in-Ok
returns-in-Ok c = link_at _ _ _ _ _ _ c.link_attribute-f.ensures _ _ c.in-Ok.is c.read_contents.ensures
