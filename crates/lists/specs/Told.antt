-- What the calls of this crate say.
use Rattle.std.specs.Prelude.{Option, None, Some}
use Rattle.error.specs.Answer.{Answer, Ok, Err}
use Rattle.lookup.specs.declared.counted.Counted.{Counted}
use Rattle.lookup.specs.Counted.{after}
use Rattle.records.specs.declared.directory.Entry.{Entry}
use Rattle.records.specs.declared.attribute.Attribute.{Attribute}
use Rattle.records.specs.declared.extent.Extent.{Extent}
use Rattle.inode_record.specs.declared.inode.Inode.{Inode}
