-- The contents of an attribute, by their form, and the text that is written of them.
use Prim.Native.Nat.{ℕ}
use mathlib.Core.Path.{◌≡◌, refl, ◌∙◌}
use mathlib.Core.Bool.{Bool}
use mathlib.Core.List.{List, [], ◌++◌, append-nil}
use Rattle.std.specs.Prelude.{Option, None, Some}
use Rattle.error.specs.Answer.{Answer, Ok, Err}
use Rattle.text.specs.Output.{Output, at, puts}
use Rattle.feed.specs.declared.feed.Feed.{Feed}
use Rattle.lookup.specs.Counted.{after, onto}
use Rattle.node.specs.declared.place.Place.{Place}
use Rattle.volume.specs.declared.Volume.{Volume}
use Rattle.records.specs.declared.attribute.AttributeData.{AttributeData}
use Rattle.records.specs.declared.attribute.AttributeData.TheVariants.{Embedded, Stream}
use Rattle.streams.proofs.Contents.{stream_settled}
use Rattle.records.specs.declared.attribute.Attribute.{Attribute}
use Rattle.inode_record.specs.declared.inode.Inode.{Inode}
use Rattle.links.specs.Named.{attribute_named}
use Rattle.links.specs.Link.{contents_by, target_of, target_in, symlink_name, link_reading}
use Rattle.links.specs.Inner.{settled_by, bytes_by, fed_as, begun_as, there, link_attribute}

-- the contents are what settling them refuses, and else the bytes
pub contents_settled : (b : List ℕ) (v : Volume) (p : Place) (d : AttributeData) (s : ℕ) → contents_by b v p d s ≡ (onto (settled_by b v d s) λ u t. after t (Ok (bytes_by b v p d s)))
unfolding contents_by settled_by bytes_by
contents_settled b v p (Embedded x) s = refl
contents_settled b v p (Stream d) s = stream_settled b v d.object d.size s

-- all contents, from the buffer's start on
pub contents_put : (raw marks : Bool) (room : ℕ) (f g : Feed) (o c x : List ℕ) (z : Output) → ((r : ℕ) (b xs : List ℕ) → fed_as raw r f b xs ≡ puts r (begun_as raw marks xs) (at b 0))
    → ((ys : List ℕ) → fed_as raw room g c ys ≡ fed_as raw room f o (x ++ ys)) → z ≡ fed_as raw room g c [] → z ≡ puts room (begun_as raw marks x) (at o 0)
contents_put raw marks room f g o c x z h k e = e ∙ k [] ∙ h room o (x ++ []) ∙ rw append-nil

-- what a link reads is what its attribute reads
pub link_by : (b : List ℕ) (v : Volume) (i : Inode) (s : ℕ) → link_reading b v i s ≡ (onto (link_attribute b v i s) λ a t. target_of b v a t)
unfolding link_reading link_attribute
link_by b v i s = of (attribute_named b v i.id symlink_name s).nodes (attribute_named b v i.id symlink_name s).answer
  where
    of : (n : ℕ) (c : Answer (Option Attribute)) → (onto (after n c) λ o t. target_in b v o t) ≡ (onto (after n (there c)) λ a t. target_of b v a t)
    of n (Ok (Some a)) = refl
    of n (Ok None) = refl
    of n (Err w) = refl
