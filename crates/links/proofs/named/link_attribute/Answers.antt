use Rattle.links.specs.Inner.{link_attribute}
use Rattle.links.proofs.named.link_attribute.Goals as goal

pub returns : goal.returns
unfolding link_attribute
returns c = rw (c.there.ensures, c.attribute_named-f.ensures)
