-- BOOKMARKS, at the exported calls: what `apfs_mark` hands out, and what `apfs_marked` makes of what is handed in. Document 02, request 10. It is proved,
-- as `apfs_bookmarks`, in proofs/Marked.antt.
--
-- Of every image and the part x of it that a container is in, and of every buffer with room: where a scan of a volume gives a record, `apfs_mark` writes the
-- 24 bytes of its place, of which `apfs_marked` on the same image writes the line of the record's own key and value. A bookmark that is not 24 bytes long,
-- or whose block or parts pass where they must lie, is -1, and leaves the buffer as it was; of any other the line of what lies there is written.
--
-- By their contracts (src/bookmarks.rt) `apfs_mark(image, volume, id, kind, place, out)` gives `mark_result image w id kind place out` and leaves
-- `mark_buffer` of the same, w being `latest volume`, and `apfs_marked(image, mark, out)` gives `marked_result image Latest mark out` and leaves
-- `marked_buffer` of the same; at a checkpoint by its number w is `numbered xid volume`, and `Latest` is `Number xid`.
use Rattle.std.specs.Prelude.{ℕ, ◌≤◌, ◌≡◌, List, [], ◌∷◌, ◌++◌, ℤ, pos, length, drop}
use Rattle.std.specs.Prelude.{Some}
use Rattle.error.specs.Answer.{Ok}
use Rattle.byte_fields.specs.Number.{little}
use Rattle.byte_fields.specs.Part.{part_of}
use Rattle.byte_fields.specs.declared.Span.{Span}
use Rattle.text.specs.Words.{ascii, bytes, words}
use Rattle.gpt.specs.Part.{part_of_image, on_part}
use Rattle.obj.specs.Block.{block_of}
use Rattle.node.specs.Place.{key_of, value_of}
use Rattle.node.specs.declared.place.Place.{Place}
use Rattle.lookup.specs.Counted.{after}
use Rattle.btree.specs.Scan.{scan_of, nth}
use Rattle.checkpoints.specs.declared.by_number.Choice.{Choice}
use Rattle.nx.specs.Open.{open_at}
use Rattle.nx.specs.declared.container.Container.{Container}
use Rattle.volume.specs.Open.{volume_of_image}
use Rattle.volume.specs.declared.Volume.{Volume}
use Rattle.volume.specs.declared.Which.{Which}
use Rattle.lists.specs.Lists.{search_of}
use Rattle.marks.specs.Mark.{mark_bytes, place_in}
use Rattle.marks.specs.Record.{record_line}
use Rattle.marks.specs.Texts.{mark_text, marked_text}
use Rattle.marks.specs.Leads.{Passes}
use Rattle.results.specs.Call.{result_of, buffer_of}
use Rattle.apfs.specs.Opened.{Refused}

abbrev pub mark_result : List ℕ → Which → ℕ → ℕ → ℕ → List ℕ → ℤ
mark_result image w id kind place b = result_of (on_part (λ p. mark_text p w id kind place) image) b

abbrev pub mark_buffer : List ℕ → Which → ℕ → ℕ → ℕ → List ℕ → List ℕ
mark_buffer image w id kind place b = buffer_of (on_part (λ p. mark_text p w id kind place) image) b

abbrev pub marked_result : List ℕ → Choice → List ℕ → List ℕ → ℤ
marked_result image choice mark b = result_of (on_part (λ p. marked_text choice p mark) image) b

abbrev pub marked_buffer : List ℕ → Choice → List ℕ → List ℕ → List ℕ
marked_buffer image choice mark b = buffer_of (on_part (λ p. marked_text choice p mark) image) b

-- a text that a call wrote
abbrev pub Wrote : ℤ → List ℕ → List ℕ → List ℕ → Type 0
Wrote result buffer t b = (result ≡ pos (length t)) × (buffer ≡ t ++ drop (length t) b)

-- the record that a scan of the volume gives after `place` others
pub record Gives (image : List ℕ) (x : Span) (w : Which) (id kind place : ℕ) (v : Volume) (p : Place) : Type 0 where
  pub part : part_of_image image ≡ Ok x
  pub nodes : ℕ
  pub opened : volume_of_image (part_of image x) w ≡ after nodes (Ok v)
  pub scanned : (nth place (scan_of (part_of image x) (search_of v id kind) nodes)).answer ≡ Ok (Some p)

-- "leads to the same bytes"
abbrev pub own_line : List ℕ → Volume → Place → List ℕ
own_line part v p = ascii "(record" (words (bytes (key_of v.reader part p) ∷ bytes (value_of v.reader part p) ∷ []) (ascii ")\n" []))

pub record ApfsBookmarks : Type 0 where
  pub handed_out : (image : List ℕ) (x : Span) (w : Which) (id kind place : ℕ) (v : Volume) (p : Place) (b : List ℕ) → Gives image x w id kind place v p →
      24 ≤ length b → Wrote (mark_result image w id kind place b) (mark_buffer image w id kind place b) (mark_bytes p) b
  pub long : (p : Place) → length (mark_bytes p) ≡ 24
  pub handed_back : (image : List ℕ) (x : Span) (w : Which) (id kind place : ℕ) (v : Volume) (p : Place) (b : List ℕ) → Gives image x w id kind place v p →
      length (own_line (part_of image x) v p) ≤ length b →
      Wrote (marked_result image w.checkpoint (mark_bytes p) b) (marked_buffer image w.checkpoint (mark_bytes p) b) (own_line (part_of image x) v p) b
  -- "is 1"
  pub one : (image : List ℕ) (x : Span) (choice : Choice) (c : Container) (m b : List ℕ) → part_of_image image ≡ Ok x → (open_at choice (part_of image x)).answer ≡ Ok c →
      Passes c.reader.block_size (length (part_of image x)) m → Refused b (marked_result image choice m b) (marked_buffer image choice m b) 1
  -- "nothing else is tested"
  pub nothing_else : (image : List ℕ) (x : Span) (choice : Choice) (c : Container) (m b : List ℕ) → part_of_image image ≡ Ok x →
      (open_at choice (part_of image x)).answer ≡ Ok c → (Passes c.reader.block_size (length (part_of image x)) m → ⊥) →
      length (record_line (block_of c.reader (part_of image x) (little 8 m 0)) (place_in m) []) ≤ length b →
      Wrote (marked_result image choice m b) (marked_buffer image choice m b) (record_line (block_of c.reader (part_of image x) (little 8 m 0)) (place_in m) []) b
