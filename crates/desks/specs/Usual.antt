-- "The answer is the usual one": what a call at a desk answers and leaves in its buffer is what the call that is exported by itself does, at the latest
-- checkpoint (`n` is 0) or at that of a number. Document 02, request 06. It is proved, as `usual`, in proofs/Usual.antt; that the desk does not matter,
-- `apfs_desk`'s contract says, whose result and buffer do not name it.
use Rattle.std.specs.Prelude.{ℕ, ◌%◌, ◌≤◌, ◌<◌, ◌≡◌, List, length}
use Rattle.error.specs.Answer.{Err}
use Rattle.error.specs.declared.Refusal.TheVariants.{NotFound}
use Rattle.gpt.specs.Part.{on_part}
use Rattle.checkpoints.specs.Numbers.{numbers_at}
use Rattle.volume.specs.Open.{latest, numbered}
use Rattle.calls.specs.Filled.{filled_by}
use Rattle.demand.specs.Demand.{listing_of}
use Rattle.listing.specs.Listed.{listed_of}
use Rattle.container_line.specs.Container.{open_text}
use Rattle.element_lines.specs.Elements.{lookup_text, entry_text, extent_text}
use Rattle.attribute_lines.specs.Attributes.{attribute_text}
use Rattle.entry_lines.specs.Entries.{entries_text}
use Rattle.reads.specs.Reads.{read_text, link_text, xattr_bytes}
use Rattle.measure.specs.Line.{measure_text}
use Rattle.marks.specs.Texts.{mark_text, marked_text}
use Rattle.replaced_line.specs.Line.{replaced_text}
use Rattle.xid_list.specs.Listed.{xids_by}
use Rattle.part_line.specs.Line.{part_text}
use Rattle.wrong_word.specs.Mends.{mends_of, mends_in}
use Rattle.desks.specs.Requests.{asked, which_by, filled_for, nodes_of}

pub record Usual (image : List ℕ) (n xid v a b c : ℕ) (path out : List ℕ) : Type 0 where
  -- the checkpoint and the volume
  pub at_latest_lem : which_by 0 xid v ≡ latest v
  pub at_number_lem : (n ≡ 0 → ⊥) → which_by n xid v ≡ numbered xid v
  pub opened : filled_for (asked 0 image n xid v a b c path (length out)) out ≡ filled_by (on_part (λ p. open_text (which_by n xid v).checkpoint p) image) out
  pub looked_up : filled_for (asked 1 image n xid v a b c path (length out)) out ≡ filled_by (on_part (λ p. lookup_text p (which_by n xid v) path) image) out
  pub read : filled_for (asked 2 image n xid v a b c path (length out)) out ≡ filled_by (on_part (λ p. read_text p (which_by n xid v) a b (length out)) image) out
  pub entry : filled_for (asked 4 image n xid v a b c path (length out)) out ≡ filled_by (on_part (λ p. entry_text p (which_by n xid v) a b) image) out
  pub attribute : filled_for (asked 5 image n xid v a b c path (length out)) out ≡ filled_by (on_part (λ p. attribute_text p (which_by n xid v) a b) image) out
  pub link : filled_for (asked 6 image n xid v a b c path (length out)) out ≡ filled_by (on_part (λ p. link_text p (which_by n xid v) a) image) out
  pub extent : filled_for (asked 7 image n xid v a b c path (length out)) out ≡ filled_by (on_part (λ p. extent_text p (which_by n xid v) a b) image) out
  pub attribute_bytes_lem : filled_for (asked 8 image n xid v a b c path (length out)) out ≡ filled_by (on_part (λ p. xattr_bytes p (which_by n xid v) a b) image) out
  pub entries : filled_for (asked 9 image n xid v a b c path (length out)) out ≡ filled_by (on_part (λ p. entries_text p (which_by n xid v) a b (length out)) image) out
  pub measured : filled_for (asked 10 image n xid v a b c path (length out)) out ≡ filled_by (on_part (λ p. measure_text p (which_by n xid v)) image) out
  pub mark : filled_for (asked 11 image n xid v a b c path (length out)) out ≡ filled_by (on_part (λ p. mark_text p (which_by n xid v) a (c % 256) b) image) out
  pub marked : filled_for (asked 12 image n xid v a b c path (length out)) out ≡ filled_by (on_part (λ p. marked_text (which_by n xid v).checkpoint p path) image) out
  pub replaced : filled_for (asked 13 image n xid v a b c path (length out)) out ≡ filled_by (on_part (λ p. replaced_text p (which_by n xid v) c a b) image) out
  pub listed : filled_for (asked 3 image n xid v a b c path (length out)) out ≡ listed_of (listing_of image (which_by n xid v) (length out)) out
  pub checkpoints : filled_for (asked 14 image n xid v a b c path (length out)) out ≡ xids_by (on_part numbers_at image) out
  pub part : filled_for (asked 15 image n xid v a b c path (length out)) out ≡ filled_by (part_text image) out
  pub wrong_words : filled_for (asked 16 image n xid v a b c path (length out)) out ≡ mends_in (mends_of image) out
  -- a number of no call is 4, and leaves the buffer
  pub no_call : (what : ℕ) → 16 < what → filled_for (asked what image n xid v a b c path (length out)) out ≡ record { answer = Err NotFound; buffer = out }
  -- the list of checkpoints, the part, the wrong words and a number of no call go through no node
  pub no_nodes : (what : ℕ) → 14 ≤ what → nodes_of (asked what image n xid v a b c path (length out)) ≡ 0
