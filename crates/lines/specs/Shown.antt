-- What a listing shows of a node, an entry and an attribute: plain values, with no place in the image. Document 01, "The listing (added)":
-- "LABEL and NAME are lossy readings", "places in the image and node counts are left out".
use Rattle.std.specs.Prelude.{ℕ, List, ℤ}
use Rattle.std.specs.Prelude.{Option, None, Some}
use Rattle.utf8.specs.Text.{lossy}
use Rattle.obj.specs.declared.reader.Reader.{Reader}
use Rattle.node.specs.declared.place.Place.{Place}
use Rattle.records.specs.Attribute.{attribute_name}
use Rattle.records.specs.Directory.{entry_name}
use Rattle.inode_record.specs.Inode.{inode_name}
use Rattle.records.specs.declared.attribute.Attribute.{Attribute}
use Rattle.records.specs.declared.attribute.AttributeData.{AttributeData}
use Rattle.records.specs.declared.attribute.AttributeData.TheVariants.{Embedded, Stream}
use Rattle.records.specs.declared.directory.Entry.{Entry}
use Rattle.inode_record.specs.declared.inode.Inode.{Inode}
use Rattle.names.specs.declared.Name.{Name}
use Rattle.inode_record.specs.declared.fields.Dstream.{Dstream}

-- "fields of `Inode` in the Rust's order": `own` is PRIVATE, `label` NAME
pub record InodeShown : Type 0 where
  pub id : ℕ
  pub parent : ℕ
  pub own : ℕ
  pub create : ℕ
  pub modify : ℕ
  pub change : ℕ
  pub access : ℕ
  pub iflags : ℕ
  pub links : ℤ
  pub bsd : ℕ
  pub owner : ℕ
  pub group : ℕ
  pub mode : ℕ
  pub label : Option (List ℕ)
  pub stream : Option (ℕ × ℕ)

-- "Entries go by ID, DATE, KIND and NAME"
pub record EntryShown : Type 0 where
  pub id : ℕ
  pub date_added : ℕ
  pub kind : ℕ
  pub label : List ℕ

-- "form (e or s), a stream's object id"
pub data Form : Type 0 where
  embedded : Form
  streamed : ℕ → Form

-- "an attribute by its flags, name, form (e or s), a stream's object id, and contents", which are of some kind
pub record AttributeShown (C : Type 0) : Type 0 where
  pub flags : ℕ
  pub label : List ℕ
  pub form : Form
  pub contents : C

-- "`(data BYTES)` or, if compressed, `(packed)`"
pub data Contents : Type 0 where
  packed : Contents
  plain : List ℕ → Contents

-- "`-` is absent"
abbrev pub name_shown : Reader → List ℕ → Place → Option Name → Option (List ℕ)
name_shown r b p None = None
name_shown r b p (Some n) = Some (lossy (inode_name r b p n))

-- "STREAM is size, comma, allocated size"
abbrev pub stream_shown : Option Dstream → Option (ℕ × ℕ)
stream_shown None = None
stream_shown (Some d) = Some (d.size, d.alloced_size)

-- what a node's line shows: "inode fields are those on the node's line"
unfoldable pub inode_shown : Reader → List ℕ → Inode → InodeShown
inode_shown r b i = record {
  id = i.id;
  parent = i.ids.parent;
  own = i.ids.private_id;
  create = i.times.create;
  modify = i.times.modify;
  change = i.times.change;
  access = i.times.access;
  iflags = i.owner.internal_flags;
  links = i.owner.links;
  bsd = i.owner.bsd_flags;
  owner = i.owner.owner;
  group = i.owner.group;
  mode = i.owner.mode;
  label = name_shown r b i.place i.fields.name;
  stream = stream_shown i.fields.stream;
}

-- "KIND is the stored 4-bit kind", "LABEL and NAME are lossy readings"
unfoldable pub entry_shown : Reader → List ℕ → Entry → EntryShown
entry_shown r b e = record { id = e.file_id; date_added = e.date_added; kind = e.kind; label = lossy (entry_name r b e) }

-- "`(attr FLAGS NAME e DATA)` or `(attr FLAGS NAME s OBJECT DATA)`"
abbrev pub form_shown : AttributeData → Form
form_shown (Embedded s) = embedded
form_shown (Stream d) = streamed d.object

-- with contents c: "each attribute with the contents of its own record or stream"
unfoldable pub attribute_shown : {C : Type 0} → Reader → List ℕ → Attribute → C → AttributeShown C
attribute_shown r b a c = record { flags = a.flags; label = lossy (attribute_name r b a); form = form_shown a.contents; contents = c }
