-- What bookmarks promise, of any image, checkpoint and volume. Document 02, request 10. Proved in proofs/Leads.antt and proofs/Refuses.antt.
use Rattle.std.specs.Prelude.{ℕ, ◌+◌, ◌*◌, ◌≤◌, ◌<◌, ◌≡◌, List, [], ◌∷◌, ◌⊎◌, length}
use Rattle.std.specs.Prelude.{None, Some}
use Rattle.error.specs.Answer.{Ok, Err}
use Rattle.error.specs.declared.Refusal.TheVariants.{Io}
use Rattle.byte_fields.specs.Number.{little}
use Rattle.text.specs.Words.{ascii, bytes, words}
use Rattle.obj.specs.Block.{block_of}
use Rattle.node.specs.Place.{key_of, value_of}
use Rattle.node.specs.declared.place.Place.{Place}
use Rattle.lookup.specs.Counted.{after}
use Rattle.btree.specs.Scan.{scan_of, nth}
use Rattle.checkpoints.specs.declared.by_number.Choice.{Choice}
use Rattle.nx.specs.Open.{open_at}
use Rattle.nx.specs.declared.container.Container.{Container}
use Rattle.volume.specs.Open.{volume_of_image}
use Rattle.volume.specs.declared.Volume.{Volume}
use Rattle.volume.specs.declared.Which.{Which}
use Rattle.lists.specs.Lists.{search_of}
use Rattle.marks.specs.Mark.{mark_bytes, place_in}
use Rattle.marks.specs.Record.{record_line}
use Rattle.marks.specs.Texts.{mark_text, marked_text}

-- "Every place held before can be held now and leads to the same bytes": the record that a scan gives has a bookmark of 24 bytes that says its place, and
-- handed in on the same image this shows the record's own key and value
pub record Held (image : List ℕ) (w : Which) (id kind place : ℕ) (v : Volume) (p : Place) : Type 0 where
  pub handed_out : mark_text image w id kind place ≡ Ok (mark_bytes p)
  pub long : length (mark_bytes p) ≡ 24
  pub back : place_in (mark_bytes p) ≡ p
  -- "Offsets run from 0 to 65,536"
  pub offsets : (p.key_off ≤ 65536) × (p.val_off ≤ 65536)
  pub handed_back : marked_text w.checkpoint image (mark_bytes p)
      ≡ Ok (ascii "(record" (words (bytes (key_of v.reader image p) ∷ bytes (value_of v.reader image p) ∷ []) (ascii ")\n" [])))

pub record Leads : Type 0 where
  pub held : (image : List ℕ) (w : Which) (id kind place s : ℕ) (v : Volume) (p : Place) →
      volume_of_image image w ≡ after s (Ok v) → (nth place (scan_of image (search_of v id kind) s)).answer ≡ Ok (Some p) → Held image w id kind place v p
  pub past : (image : List ℕ) (w : Which) (id kind place s : ℕ) (v : Volume) →
      volume_of_image image w ≡ after s (Ok v) → (nth place (scan_of image (search_of v id kind) s)).answer ≡ Ok None → mark_text image w id kind place ≡ Ok []

-- "one handed in whose parts pass its block, or whose block passes the image": in an image of len bytes with blocks of size bytes; "a missing value is
-- 0xFFFFFFFF in both its fields"
abbrev pub Passes : ℕ → ℕ → List ℕ → Type 0
Passes size len m =
    (length m ≡ 24 → ⊥) ⊎ (len < (little 8 m 0 + 1) * size) ⊎ (size < little 4 m 8 + little 4 m 12)
    ⊎ ((size < little 4 m 16 + little 4 m 20) × ((little 4 m 16 ≡ 0xFFFFFFFF) × (little 4 m 20 ≡ 0xFFFFFFFF) → ⊥))

-- ".. is 1; nothing else is tested"
pub record Refuses : Type 0 where
  pub one : (choice : Choice) (image m : List ℕ) (c : Container) → (open_at choice image).answer ≡ Ok c → Passes c.reader.block_size (length image) m →
      marked_text choice image m ≡ Err Io
  pub nothing_else : (choice : Choice) (image m : List ℕ) (c : Container) → (open_at choice image).answer ≡ Ok c → (Passes c.reader.block_size (length image) m → ⊥) →
      marked_text choice image m ≡ Ok (record_line (block_of c.reader image (little 8 m 0)) (place_in m) [])
