-- The bytes of a stream, as the code feeds them.
use Prim.Native.Nat.{ℕ, ◌-◌}
use mathlib.Core.Path.{◌≡◌, sym, ap, ◌∙◌}
use mathlib.Core.Bool.{Bool}
use mathlib.Core.List.{List, ◌++◌, append_assoc}
use lib.ListN.{replicate}
use Rattle.error.specs.Answer.{Answer}
use Rattle.error.specs.declared.Refusal.{Refusal}
use Rattle.feed.specs.declared.feed.Feed.{Feed}
use Rattle.btree.specs.Scan.{Run, scan_of}
use Rattle.btree.specs.declared.entries.Search.{Search}
use Rattle.node.specs.declared.place.Place.{Place}
use Rattle.cursor.specs.Left.{left, run_at, in_step, Begins}
use Rattle.cursor.specs.declared.steps.Step.{Step}
use Rattle.volume.specs.declared.Volume.{Volume}
use Rattle.records.specs.Extent.{extent_at}
use Rattle.records.specs.declared.extent.Extent.{Extent}
use Rattle.lists.specs.Lists.{search_of}
use Rattle.lists.specs.declared.seen.Seen.{Seen}
use Rattle.lists.specs.declared.seen.Seen.TheVariants.{Over, Passed, Element, Refused}
use Rattle.lists.specs.Seen.{seen_in}
use Rattle.extents.specs.Extents.{Disk, disk_of}
use Rattle.streams.specs.Inner.{next_pos, step_bytes, run_bytes, stream_bytes}
use Rattle.lists.proofs.Turns.{turns}
use Rattle.streams.proofs.Pouring.{bytes_over, bytes_no, bytes_at, bytes_passed}
use Rattle.links.specs.Inner.{fed_as}

-- r, to which x still comes, gives what f gives, to which y comes
pub record Feeds (raw : Bool) (room : ℕ) (r : Feed) (c x : List ℕ) (f : Feed) (b y : List ℕ) : Type 0 where
  pub as_one : (xs : List ℕ) → fed_as raw room r c (x ++ xs) ≡ fed_as raw room f b (y ++ xs)

-- the turns of the loop
pub stream_start : (raw : Bool) (room : ℕ) (f : Feed) (o : List ℕ) (g : Place → Answer Extent) (d : Disk) (size : ℕ) (r n : Run) → r ≡ n
    → Feeds raw room f o (run_bytes g d size 0 r) f o (run_bytes g d size 0 n)
stream_start raw room f o g d size r n e = record { as_one = λ xs. rw e }

module _ (raw : Bool) (room : ℕ) (h f : Feed) (o u y : List ℕ) (g : Place → Answer Extent) (d : Disk) (size pos : ℕ) (b : List ℕ) (q : Search) (s : Step) (i : ℕ)
    (inv : Feeds raw room h o (run_bytes g d size pos (run_at b q s i)) f u y) (x : Seen Extent) (t : x ≡ seen_in g (in_step b q s.reached i)) where
  pub stream_end : (n : ℕ) (r : Feed) (c xs : List ℕ) → x ≡ Over → n ≡ size - pos → ((ys : List ℕ) → fed_as raw room r c ys ≡ fed_as raw room h o (replicate n 0 ++ ys)) → fed_as raw room r c xs ≡ fed_as raw room f u (y ++ xs)
  stream_end n r c xs e k l = l xs ∙ rw k (rw (bytes_over g d size pos b q s i x t e) at (inv.as_one xs))

  pub stream_no : (w : Refusal) (xs : List ℕ) → x ≡ Refused w → fed_as raw room h o xs ≡ fed_as raw room f u (y ++ xs)
  stream_no w xs e = rw (bytes_no g d size pos b q s i x t w e) at (inv.as_one xs)

  pub stream_passed : (n : Step) → x ≡ Passed → Begins b q n (left b q s.path s.level s.nodes) → Feeds raw room h o (run_bytes g d size pos (run_at b q n n.from)) f u y
  stream_passed n e k = rw (bytes_passed g d size pos b q s i x t n e k) inv

  pub stream_next : (e : Extent) (a m : ℕ) (z : Feed) (c : List ℕ) → x ≡ Element e a → ((ys : List ℕ) → fed_as raw room z c ys ≡ fed_as raw room h o (step_bytes d size pos e ++ ys)) → m ≡ next_pos size pos e
      → Feeds raw room z c (run_bytes g d size m (run_at b q s a)) f u y
  stream_next e a m z c k l v = record {
    as_one = λ xs.
        l (run_bytes g d size m (run_at b q s a) ++ xs)
        ∙ ap (fed_as raw room h o) (sym (append_assoc (step_bytes d size pos e) (run_bytes g d size m (run_at b q s a)) xs))
        ∙ rw v (rw (bytes_at g d size pos b q s i x t e a k) at (inv.as_one xs));
  }

pub stream_done : (raw : Bool) (room : ℕ) (f r : Feed) (i c xs : List ℕ) (b : List ℕ) (v : Volume) (object size s : ℕ) (q : Search) → q ≡ search_of v object 8
    → fed_as raw room r c xs ≡ fed_as raw room f i (run_bytes (extent_at q.keys.reader b) (disk_of v.reader b) size 0 (scan_of b q s) ++ xs) → fed_as raw room r c xs ≡ fed_as raw room f i (stream_bytes b v object size s ++ xs)
unfolding stream_bytes
stream_done raw room f r i c xs b v object size s q e h = rw e at h

pub ruleset pouring = (turns, stream_start, stream_passed, stream_next)
