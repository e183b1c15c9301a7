-- THE THIRD DEMAND: what it says. Document 01, "The listing (added)", "For demand 3 ..". It is proved, as `third_demand`, in proofs/Demand.antt.
--
-- Of any two images, any checkpoints and volume indexes in them and any lengths of the two buffers, such that neither listing is refused:
--   1. the two texts are equal exactly where the volumes are the same: label and name rule are equal, and every chain of positions, of any length,
--      leads to nowhere on both, or on both to inodes with equal fields, equal entries and equal attributes with their contents, in order and repeats
--      kept, and with equal answers to a file read at every offset and length;
--   2. the same with reads compared only at offsets and lengths up to 2^64 − 1, which are all that a caller can ask;
--   3. where the texts are equal, every path, of any bytes, gets the same answer or the same refusal from both.
-- And 4. under a listing that is not refused no chain meets a refusal, nor do the entries, attributes and contents where it leads.
-- That is said of any lister (`DemandOn`), and of ours (`ThirdDemand`); which listers it shuts out stands in Listers.antt.
--
-- Of which calls: opening (`volume_of_image`), `inode`, `read_dir`, `xattrs`, `read_xattr`, `read_at` and `lookup_path` by the definitions that their
-- contracts cite (`inode_of`, `entries_of`, `attributes_of`, `contents_of`, `read_file`, `lookup_path`), and the listing by `listing_of`; each of the part of the
-- image that a container is in (`on_part`, in gpt: document 02, request 01). Names and the label are lossily read; places in the image and node counts are
-- left out, and no answer depends on a count (proofs/Counts.antt). What that gives for the texts of `apfs_lookup`, `apfs_read`, `apfs_entry`,
-- `apfs_entries`, `apfs_xattr`, `apfs_xattr_bytes` and `apfs_link` stands in apfs, proofs/Alike.antt.
--
-- What is assumed: nothing. An image is any list of numbers; 2 says of the two that they are lists of bytes, numbers below 256, as every slice of
-- bytes is, for only then is no file longer than 2^64 − 1.
use Rattle.std.specs.Prelude.{ℕ, zero, suc, ◌-◌, ◌^◌, ◌≤◌, ◌<◌, ◌≡◌, true, ◌↔◌, ◌⊎◌, List, [], ◌∷◌, map, get_or}
use Rattle.error.specs.Answer.{Answer, Ok, Err, ◌>>=◌}
use Rattle.error.specs.declared.Refusal.{Refusal}
use Rattle.gpt.specs.Part.{on_part}
use Rattle.utf8.specs.Text.{lossy}
use Rattle.lookup.specs.Counted.{after, onto}
use Rattle.volume.specs.Open.{volume_of_image}
use Rattle.volume.specs.declared.Volume.{Volume}
use Rattle.volume.specs.declared.Which.{Which}
use Rattle.records.specs.declared.attribute.Attribute.{Attribute}
use Rattle.label.specs.Label.{label_of}
use Rattle.lists.specs.Lists.{root_id, inode_of, entries_of, attributes_of}
use Rattle.files.specs.File.{read_file, read_whole}
use Rattle.links.specs.Link.{contents_of}
use Rattle.volume.specs.Rule.{rule_of}
use Rattle.paths.specs.Lookup.{lookup_path}
use Rattle.lines.specs.Shown.{InodeShown, EntryShown, AttributeShown, inode_shown, entry_shown, attribute_shown}
use Rattle.demand.specs.View.{View}
use Rattle.demand.specs.Listing.{is_packed, listing}

-- ---- what a volume answers. Each call begins here at a node count of 0

-- nx.rs, the `name` of `ApfsSuperblock`: "LABEL and NAME are lossy readings"
unfoldable pub label_shown : List ℕ → Volume → List ℕ
label_shown image v = lossy (label_of image v)

-- fs.rs, `inode`: "inode fields are those on the node's line"
unfoldable pub inode_answer : List ℕ → Volume → ℕ → Answer InodeShown
inode_answer image v id = (inode_of image v id 0).answer >>= λ i. Ok (inode_shown v.reader image i)

-- fs.rs, `read_dir`: "Entries go by ID, DATE, KIND and NAME"
unfoldable pub entries_answer : List ℕ → Volume → ℕ → Answer (List EntryShown)
entries_answer image v id = (entries_of image v id 0).answer >>= λ es. Ok (map (entry_shown v.reader image) es)

-- "each attribute with the contents of its own record or stream"
abbrev pub with_contents : List ℕ → Volume → Attribute → AttributeShown (Answer (List ℕ))
with_contents image v a = attribute_shown v.reader image a (contents_of image v a 0).answer

-- fs.rs, `xattrs`, and of each `read_xattr`
unfoldable pub attributes_answer : List ℕ → Volume → ℕ → Answer (List (AttributeShown (Answer (List ℕ))))
attributes_answer image v id = (attributes_of image v id 0).answer >>= λ l. Ok (map (with_contents image v) l)

-- a file's bytes as the listing reads them: with the test on extents, "in a listing, also one that starts before its predecessor's end"
unfoldable pub contents_answer : List ℕ → Volume → ℕ → Answer (List ℕ)
contents_answer image v id = (inode_of image v id 0).answer >>= λ i. (read_whole image v i 0).answer

-- fs.rs, `read_at`: "the count and bytes that `read_at` gives or .. its refusal number"
unfoldable pub read_answer : List ℕ → Volume → ℕ → ℕ → ℕ → Answer (List ℕ)
read_answer image v id off len = (inode_of image v id 0).answer >>= λ i. (read_file image v i off len 0).answer

abbrev pub view_of : List ℕ → Volume → View
view_of image v = record {
  label = label_shown image v;
  rule = rule_of v;
  inode = inode_answer image v;
  entries = entries_answer image v;
  attributes = attributes_answer image v;
  contents = contents_answer image v;
  read = read_answer image v;
}

-- an image is a list of bytes
abbrev pub Bytes : List ℕ → Type 0
Bytes image = (i : ℕ) → get_or image i 0 < 256

-- ---- of the bytes of a container

-- a volume, at a checkpoint
unfoldable pub view_of_part : List ℕ → Which → Answer View
view_of_part part w = (volume_of_image part w).answer >>= λ v. Ok (view_of part v)

-- its listing into a buffer of `room` bytes: "answered for a volume opened from an image, whatever the buffer's length"
unfoldable pub listing_of_part : List ℕ → Which → ℕ → Answer (List ℕ)
listing_of_part part w room = view_of_part part w >>= λ v. listing v room

-- fs.rs, `lookup_path`: "A lookup goes by its whole answer, less what is left out of the comparison"
unfoldable pub lookup_of_part : List ℕ → Which → List ℕ → Answer InodeShown
lookup_of_part part w path =
    (onto (volume_of_image part w) (λ v s. onto (lookup_path part v path s) λ i t. after t (Ok (inode_shown v.reader part i)))).answer

-- ---- of an image. Document 02, request 01: "Everything after reads that part as its whole image"

unfoldable pub view_at : List ℕ → Which → Answer View
view_at image w = on_part (λ p. view_of_part p w) image

unfoldable pub listing_of : List ℕ → Which → ℕ → Answer (List ℕ)
listing_of image w room = on_part (λ p. listing_of_part p w room) image

unfoldable pub lookup_of : List ℕ → Which → List ℕ → Answer InodeShown
lookup_of image w path = on_part (λ p. lookup_of_part p w path) image

-- ---- when two volumes answer the same

-- where a chain leads
pub data Met : Type 0 where
  here : InodeShown → Met
  nowhere : Met
  refused : Refusal → Met

abbrev pub met : Answer InodeShown → Met
met (Ok f) = here f
met (Err e) = refused e

-- "the inode whose ID stands at that place in the entries"; "A chain that goes past the end of a list leads nowhere"
unfoldable pub place : View → List EntryShown → ℕ → Met
place v [] k = nowhere
place v (e ∷ es) zero = met (v.inode e.id)
place v (e ∷ es) (suc k) = place v es k

abbrev pub place_in : View → Answer (List EntryShown) → ℕ → Met
place_in v (Ok es) k = place v es k
place_in v (Err e) k = refused e

-- "one more position leads on"
unfoldable pub onward : View → Met → ℕ → Met
onward v (here f) k = place_in v (v.entries f.id) k
onward v nowhere k = nowhere
onward v (refused e) k = refused e

unfoldable pub follow : View → Met → List ℕ → Met
follow v m [] = m
follow v m (k ∷ c) = follow v (onward v m k) c

-- "A chain is a list of positions counted from 0, of any length. The empty chain leads to the `root` inode"
abbrev pub chain : View → List ℕ → Met
chain v c = follow v (met (v.inode root_id)) c

-- what two volumes give where a chain leads: it leads nowhere on both; or on both to an inode, with the same fields, entries, attributes with their
-- contents, and the same answer to a file read at every offset and length
pub data Agree (v w : View) (m n : Met) : Type 0 where
  past : m ≡ nowhere → n ≡ nowhere → Agree v w m n
  on : (f : InodeShown) → m ≡ here f → n ≡ here f → v.entries f.id ≡ w.entries f.id → v.attributes f.id ≡ w.attributes f.id
      → ((off len : ℕ) → v.read f.id off len ≡ w.read f.id off len) → Agree v w m n

-- the same where reads are compared only at the offsets and lengths up to `most`
pub data AgreeTo (most : ℕ) (v w : View) (m n : Met) : Type 0 where
  past_to : m ≡ nowhere → n ≡ nowhere → AgreeTo most v w m n
  on_to : (f : InodeShown) → m ≡ here f → n ≡ here f → v.entries f.id ≡ w.entries f.id → v.attributes f.id ≡ w.attributes f.id
      → ((off len : ℕ) → off ≤ most → len ≤ most → v.read f.id off len ≡ w.read f.id off len) → AgreeTo most v w m n

-- label, name rule and, along every chain, what is given where it leads
pub record Same (v w : View) : Type 0 where
  pub label : v.label ≡ w.label
  pub rule : v.rule ≡ w.rule
  pub chains : (c : List ℕ) → Agree v w (chain v c) (chain w c)

pub record SameTo (most : ℕ) (v w : View) : Type 0 where
  pub label : v.label ≡ w.label
  pub rule : v.rule ≡ w.rule
  pub chains : (c : List ℕ) → AgreeTo most v w (chain v c) (chain w c)

-- ---- the demand

-- both volumes open, and they are the same
abbrev pub SameVolumes : Answer View → Answer View → Type 0
SameVolumes (Ok v) (Ok w) = Same v w
SameVolumes (Ok v) (Err e) = ⊥
SameVolumes (Err d) (Ok w) = ⊥
SameVolumes (Err d) (Err e) = ⊥

abbrev pub SameVolumesTo : ℕ → Answer View → Answer View → Type 0
SameVolumesTo most (Ok v) (Ok w) = SameTo most v w
SameVolumesTo most (Ok v) (Err e) = ⊥
SameVolumesTo most (Err d) (Ok w) = ⊥
SameVolumesTo most (Err d) (Err e) = ⊥

-- an answer that is no refusal
abbrev pub Answered : {A : Type 0} → Answer A → Type 0
Answered {A} a = (x : A) × (a ≡ Ok x)

-- each attribute's contents were read
abbrev pub AllAnswered : List (AttributeShown (Answer (List ℕ))) → Type 0
AllAnswered [] = Unit
AllAnswered (a ∷ l) = Answered a.contents × AllAnswered l

-- a chain that leads nowhere, or to an inode whose entries and attributes are read, each attribute's contents, and the file's, unless it is packed
pub data Unrefused (v : View) (m : Met) : Type 0 where
  past_end : m ≡ nowhere → Unrefused v m
  at_inode : (f : InodeShown) → m ≡ here f → Answered (v.entries f.id)
      → (l : List (AttributeShown (Answer (List ℕ)))) → v.attributes f.id ≡ Ok l → AllAnswered l
      → (is_packed f ≡ true) ⊎ Answered (v.contents f.id) → Unrefused v m

abbrev pub UnrefusedOn : Answer View → List ℕ → Type 0
UnrefusedOn (Ok v) c = Unrefused v (chain v c)
UnrefusedOn (Err e) c = ⊥

-- a lister: of an image, a checkpoint and volume of it and a buffer's length, a text or a refusal
abbrev pub Lister : Type 0
Lister = List ℕ → Which → ℕ → Answer (List ℕ)

-- the demand on any lister, where `view` is what a volume of an image answers, and `find` what a path looked up there gets. Document 02, request 04:
-- "Listings of one stick from two checkpoints compare as those of two sticks do": a and b may be one image
pub record DemandOn (view : List ℕ → Which → Answer View) (find : List ℕ → Which → List ℕ → Answer InodeShown) (lister : Lister) : Type 0 where
  -- 1. equal texts exactly where the volumes are the same
  pub listings : (a b : List ℕ) (i j : Which) (m n : ℕ) (t u : List ℕ) → lister a i m ≡ Ok t → lister b j n ≡ Ok u
      → (t ≡ u) ↔ SameVolumes (view a i) (view b j)
  -- 2. the same for the reads that a caller can ask
  pub listings_to : (a b : List ℕ) (i j : Which) (m n : ℕ) (t u : List ℕ) → Bytes a → Bytes b → lister a i m ≡ Ok t → lister b j n ≡ Ok u
      → (t ≡ u) ↔ SameVolumesTo (2 ^ 64 - 1) (view a i) (view b j)
  -- 3. every path gets the same answer, or the same refusal
  pub lookups : (a b : List ℕ) (i j : Which) (m n : ℕ) (t u : List ℕ) → lister a i m ≡ Ok t → lister b j n ≡ Ok u → t ≡ u
      → (path : List ℕ) → find a i path ≡ find b j path
  -- 4. no chain meets a refusal
  pub unrefused : (a : List ℕ) (i : Which) (m : ℕ) (t : List ℕ) → lister a i m ≡ Ok t → (c : List ℕ) → UnrefusedOn (view a i) c

-- of the listing, on volumes opened from images
abbrev pub ThirdDemand : Type 0
ThirdDemand = DemandOn view_at lookup_of listing_of
