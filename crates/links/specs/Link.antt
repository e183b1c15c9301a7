-- The contents of an attribute, and the text of a symbolic link. fs.rs, `read_xattr` and `read_link`; document 01, "Records".
use Rattle.std.specs.Prelude.{ℕ, List, []}
use Rattle.std.specs.Prelude.{Option, None, Some}
use Rattle.error.specs.Answer.{Ok, Err, ◌>>=◌}
use Rattle.error.specs.declared.Refusal.TheVariants.{Corrupt}
use Rattle.byte_fields.specs.Part.{up_to_zero}
use Rattle.utf8.specs.Text.{Reading, reading}
use Rattle.text.specs.Words.{ascii}
use Rattle.lookup.specs.declared.counted.Counted.{Counted}
use Rattle.lookup.specs.Counted.{after, onto}
use Rattle.node.specs.declared.place.Place.{Place}
use Rattle.volume.specs.declared.Volume.{Volume}
use Rattle.records.specs.Attribute.{attribute_bytes}
use Rattle.records.specs.declared.attribute.Attribute.{Attribute}
use Rattle.records.specs.declared.attribute.AttributeData.{AttributeData}
use Rattle.records.specs.declared.attribute.AttributeData.TheVariants.{Embedded, Stream}
use Rattle.inode_record.specs.declared.inode.Inode.{Inode}
use Rattle.streams.specs.Streams.{stream_of}
use Rattle.links.specs.Named.{attribute_named}

-- document 01, "Records": "Attribute flag 0x1 means a stream of object id and size, else the bytes follow"; fs.rs, `read_xattr`
unfoldable pub contents_by : List ℕ → Volume → Place → AttributeData → ℕ → Counted (List ℕ)
contents_by b v p (Embedded x) s = after s (Ok (attribute_bytes v.reader b p x))
contents_by b v p (Stream d) s = stream_of b v d.object d.size s

-- the contents of an attribute, s nodes having been gone through before
abbrev pub contents_of : List ℕ → Volume → Attribute → ℕ → Counted (List ℕ)
contents_of b v a s = contents_by b v a.place a.contents s

-- document 01, bytes.rs: "`cstr` stops at the first zero byte or the end and reads lossily", with the number of parts that are replaced: document 02,
-- request 02
unfoldable pub target_of : List ℕ → Volume → Attribute → ℕ → Counted Reading
target_of b v a s = onto (contents_of b v a s) λ x t. after t (Ok (reading (up_to_zero x)))

abbrev pub target_in : List ℕ → Volume → Option Attribute → ℕ → Counted Reading
target_in b v None s = after s (Err Corrupt)
target_in b v (Some a) s = target_of b v a s

-- fs.rs, `SYMLINK_XATTR`
abbrev pub symlink_name : List ℕ
symlink_name = ascii "com.apple.fs.symlink" []

-- fs.rs, `read_link`: the first attribute of that name, and 2 where there is none
unfoldable pub link_reading : List ℕ → Volume → Inode → ℕ → Counted Reading
link_reading b v inode s = onto (attribute_named b v inode.id symlink_name s) λ o t. target_in b v o t

-- its text
unfoldable pub link_of : List ℕ → Volume → Inode → ℕ → Counted (List ℕ)
link_of b v inode s = onto (link_reading b v inode s) λ r t. after t (Ok r.text)

-- and its number, with the nodes gone through: document 02, request 06
abbrev pub replaced_of : Counted Reading → Counted ℕ
replaced_of c = after c.nodes (c.answer >>= λ r. Ok r.replaced)
