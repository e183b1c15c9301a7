-- The bytes of a file and of an attribute, and the text of a symbolic link, by the inode's id: document 01, fs.rs, `read_at`, `read_xattr` and
-- `read_link`.
use Rattle.std.specs.Prelude.{ℕ, List, []}
use Rattle.std.specs.Prelude.{Option, None, Some}
use Rattle.error.specs.Answer.{Answer, Ok}
use Rattle.lookup.specs.declared.counted.Counted.{Counted}
use Rattle.lookup.specs.Counted.{after, onto}
use Rattle.volume.specs.declared.Volume.{Volume}
use Rattle.volume.specs.declared.Which.{Which}
use Rattle.records.specs.declared.attribute.Attribute.{Attribute}
use Rattle.lists.specs.Lists.{placed, attributes_of, inode_of}
use Rattle.files.specs.File.{read_file}
use Rattle.links.specs.Link.{contents_of, link_of}
use Rattle.calls.specs.OnVolume.{on_volume}

-- of a file, as many bytes from an offset on as the buffer's length asks and the file has; its inode is read first
unfoldable pub read_on : List ℕ → Volume → ℕ → ℕ → ℕ → ℕ → Counted (List ℕ)
read_on image v id off len s = onto (inode_of image v id s) λ i t. read_file image v i off len t

-- the bytes of a file, with the nodes gone through: document 02, request 06
unfoldable pub read_counted : List ℕ → Which → ℕ → ℕ → ℕ → Counted (List ℕ)
read_counted image w id off len = on_volume (λ v s. read_on image v id off len s) image w

-- what `apfs_read` answers
abbrev pub read_text : List ℕ → Which → ℕ → ℕ → ℕ → Answer (List ℕ)
read_text image w id off len = (read_counted image w id off len).answer

-- the text of a symbolic link; its inode is read first
unfoldable pub link_on : List ℕ → Volume → ℕ → ℕ → Counted (List ℕ)
link_on image v id s = onto (inode_of image v id s) λ i t. link_of image v i t

-- the text of a symbolic link, with the nodes gone through: document 02, request 06
unfoldable pub link_counted : List ℕ → Which → ℕ → Counted (List ℕ)
link_counted image w id = on_volume (λ v s. link_on image v id s) image w

-- what `apfs_link` answers
abbrev pub link_text : List ℕ → Which → ℕ → Answer (List ℕ)
link_text image w id = (link_counted image w id).answer

abbrev pub xattr_show : List ℕ → Volume → Option Attribute → ℕ → Counted (List ℕ)
xattr_show image v None s = after s (Ok [])
xattr_show image v (Some a) s = contents_of image v a s

-- the bytes of the attribute at a place; "past its end is "none"": no bytes
unfoldable pub xattr_on : List ℕ → Volume → ℕ → ℕ → ℕ → Counted (List ℕ)
xattr_on image v id place s = onto (placed place (attributes_of image v id s)) λ o t. xattr_show image v o t

-- the bytes of an attribute by its place, with the nodes gone through: document 02, request 06
unfoldable pub xattr_counted : List ℕ → Which → ℕ → ℕ → Counted (List ℕ)
xattr_counted image w id place = on_volume (λ v s. xattr_on image v id place s) image w

-- what `apfs_xattr_bytes` answers
abbrev pub xattr_bytes : List ℕ → Which → ℕ → ℕ → Answer (List ℕ)
xattr_bytes image w id place = (xattr_counted image w id place).answer
