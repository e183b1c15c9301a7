-- The shape of this crate's loops; no promise to a caller rests on these.
-- `keep_named` over a list is `named` (proofs/Names.antt). `settled_by` and then `bytes_by` are `contents_by` (`contents_settled`,
-- proofs/Targets.antt). `fed_as` over all contents is `read_as` of them (`contents_put`), and `read_contents` is `contents_of` or the text of `target_of`
-- (proofs/Answers.antt), that of `link_attribute` is `link_reading` (`link_by`, proofs/Targets.antt), whose number `counted_in` is (proofs/Counting.antt).
use Rattle.std.specs.Prelude.{ℕ, Bool, false, List}
use Rattle.std.specs.Prelude.{Option, None, Some}
use Rattle.error.specs.Answer.{Answer, Ok, Err, ◌>>=◌, pick}
use Rattle.error.specs.declared.Refusal.TheVariants.{Corrupt}
use Rattle.lookup.specs.declared.counted.Counted.{Counted}
use Rattle.lookup.specs.Counted.{after, onto}
use Rattle.text.specs.Output.{Output, output_of, puts}
use Rattle.byte_fields.specs.Part.{up_to_zero}
use Rattle.utf8.specs.Text.{reading}
use Rattle.feed.specs.Fed.{written_as, fed}
use Rattle.feed.specs.declared.feed.Feed.{Feed}
use Rattle.obj.specs.declared.reader.Reader.{Reader}
use Rattle.node.specs.declared.place.Place.{Place}
use Rattle.volume.specs.declared.Volume.{Volume}
use Rattle.records.specs.Attribute.{attribute_bytes}
use Rattle.records.specs.declared.attribute.Attribute.{Attribute}
use Rattle.records.specs.declared.attribute.AttributeData.{AttributeData}
use Rattle.records.specs.declared.attribute.AttributeData.TheVariants.{Embedded, Stream}
use Rattle.extents.specs.Verdict.{fine}
use Rattle.streams.specs.Streams.{settled_of}
use Rattle.streams.specs.Inner.{stream_bytes}
use Rattle.inode_record.specs.declared.inode.Inode.{Inode}
use Rattle.links.specs.Named.{has_name, attribute_named}
use Rattle.links.specs.Link.{contents_of, symlink_name}

-- what is kept of a list once a is passed
unfoldable pub keep_named : Reader → List ℕ → List ℕ → Option Attribute → Attribute → Option Attribute
keep_named r b name None a = pick (has_name r b name a) (Some a) None
keep_named r b name (Some x) a = Some x

-- an attribute's contents in two passes: what is refused, and the bytes
unfoldable pub settled_by : List ℕ → Volume → AttributeData → ℕ → Counted (Unit {0})
settled_by b v (Embedded x) s = after s fine
settled_by b v (Stream d) s = settled_of b v d.object d.size s

abbrev pub settled_contents : List ℕ → Volume → Attribute → ℕ → Counted (Unit {0})
settled_contents b v a s = settled_by b v a.contents s

unfoldable pub bytes_by : List ℕ → Volume → Place → AttributeData → ℕ → List ℕ
bytes_by b v p (Embedded x) s = attribute_bytes v.reader b p x
bytes_by b v p (Stream d) s = stream_bytes b v d.object d.size s

abbrev pub content_bytes : List ℕ → Volume → Attribute → ℕ → List ℕ
content_bytes b v a s = bytes_by b v a.place a.contents s

-- what was written once the bytes xs have come too, raw or as a text
unfoldable pub fed_as : Bool → ℕ → Feed → List ℕ → List ℕ → Output
fed_as raw room f b xs = pick raw (puts room xs (output_of f.position b)) (fed room f b xs)

-- bytes raw, as a text, or the parts of the text that are replaced
unfoldable pub begun_as : Bool → Bool → List ℕ → List ℕ
begun_as raw marks x = pick raw x (written_as marks (up_to_zero x))

-- raw, or as a text
abbrev pub read_as : Bool → List ℕ → List ℕ
read_as raw x = begun_as raw false x

unfoldable pub read_contents : Bool → List ℕ → Volume → Attribute → ℕ → Counted (List ℕ)
read_contents raw b v a s = onto (contents_of b v a s) λ x t. after t (Ok (read_as raw x))

-- how many parts of a text with these contents are replaced
abbrev pub counted_in : Counted (List ℕ) → Counted ℕ
counted_in c = after c.nodes (c.answer >>= λ x. Ok (reading (up_to_zero x)).replaced)

-- the attribute that holds a symbolic link's text
abbrev pub there : Answer (Option Attribute) → Answer Attribute
there (Ok None) = Err Corrupt
there (Ok (Some a)) = Ok a
there (Err e) = Err e

unfoldable pub link_attribute : List ℕ → Volume → Inode → ℕ → Counted Attribute
link_attribute b v inode s =
    let c : Counted (Option Attribute) = attribute_named b v inode.id symlink_name s in
    after c.nodes (there c.answer)
