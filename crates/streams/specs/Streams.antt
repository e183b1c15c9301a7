-- An attribute's data stream: its contents, and what is refused. fs.rs, `read_xattr` and `copy_dstream`; document 01, "Records".
use Rattle.std.specs.Prelude.{ℕ, List}
use Rattle.lookup.specs.declared.counted.Counted.{Counted}
use Rattle.lookup.specs.Counted.{after, onto}
use Rattle.volume.specs.declared.Volume.{Volume}
use Rattle.lists.specs.Lists.{extents_of}
use Rattle.extents.specs.Verdict.{fine}
use Rattle.extents.specs.Extents.{disk_of}
use Rattle.streams.specs.Stream.{stream}

-- all extents are read, then the stream's bytes
unfoldable pub stream_of : List ℕ → Volume → ℕ → ℕ → ℕ → Counted (List ℕ)
stream_of b v object size s = onto (extents_of b v object s) λ es t. after t (stream (disk_of v.reader b) size es)

-- whether that is refused
unfoldable pub settled_of : List ℕ → Volume → ℕ → ℕ → ℕ → Counted (Unit {0})
settled_of b v object size s = onto (stream_of b v object size s) λ bs t. after t fine
