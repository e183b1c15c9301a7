-- What the listing refuses of a file's contents. Document 01, "The listing (added)": "a stream's or file's bytes are read for their own line".
use Rattle.std.specs.Prelude.{ℕ, List}
use Rattle.lookup.specs.declared.counted.Counted.{Counted}
use Rattle.lookup.specs.Counted.{after, onto}
use Rattle.volume.specs.declared.Volume.{Volume}
use Rattle.inode_record.specs.declared.inode.Inode.{Inode}
use Rattle.extents.specs.Verdict.{fine}
use Rattle.files.specs.File.{read_plain}

-- whether reading the whole of a file that is not compressed is refused
unfoldable pub settled_whole : List ℕ → Volume → Inode → ℕ → Counted (Unit {0})
settled_whole b v i s = onto (read_plain b v i s) λ bs t. after t fine
