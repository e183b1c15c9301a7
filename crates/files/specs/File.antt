-- A read of a file. Document 01, fs.rs, `read_at`, and "Records", "Reads: ..".
use Rattle.std.specs.Prelude.{ℕ, List, None, Option, Some}
use Rattle.error.specs.Answer.{Err, if_eq}
use Rattle.error.specs.declared.Refusal.TheVariants.{Unsupported}
use Rattle.lookup.specs.declared.counted.Counted.{Counted}
use Rattle.lookup.specs.Counted.{after, onto}
use Rattle.volume.specs.declared.Volume.{Volume}
use Rattle.inode_record.specs.Inode.{compressed}
use Rattle.inode_record.specs.declared.inode.Inode.{Inode}
use Rattle.lists.specs.Lists.{extents_of}
use Rattle.calls.specs.Filled.{Answered}
use Rattle.extents.specs.Extents.{disk_of}
use Rattle.files.specs.Read.{read_at, read_all}
use Rattle.inode_record.specs.declared.fields.Dstream.{Dstream}

abbrev pub stream_size : Option Dstream → ℕ
stream_size None = 0
stream_size (Some s) = s.size

-- "the size (0 without a data stream)"
abbrev pub size_of : Inode → ℕ
size_of i = stream_size i.fields.stream

-- "compressed is 3", before anything is read
unfoldable pub read_file : List ℕ → Volume → Inode → ℕ → ℕ → ℕ → Counted (List ℕ)
read_file b v i off len s =
    if_eq (compressed i) 1 (after s (Err Unsupported))
    (onto (extents_of b v i.ids.private_id s) λ es t. after t (read_at (disk_of v.reader b) (size_of i) es off len))

-- the whole of a file that is not compressed, as the listing reads it: all its extents are read, then what `read_all` says of them
unfoldable pub read_plain : List ℕ → Volume → Inode → ℕ → Counted (List ℕ)
read_plain b v i s = onto (extents_of b v i.ids.private_id s) λ es t. after t (read_all (disk_of v.reader b) (size_of i) es)

-- of any file: a compressed one is 3, as in a read
unfoldable pub read_whole : List ℕ → Volume → Inode → ℕ → Counted (List ℕ)
read_whole b v i s = if_eq (compressed i) 1 (after s (Err Unsupported)) (read_plain b v i s)

-- what a call says, and the buffer as it leaves it
abbrev pub read_told : Counted ℕ → List ℕ → Answered
read_told r out = record { nodes = r.nodes; result = record { answer = r.answer; buffer = out } }
