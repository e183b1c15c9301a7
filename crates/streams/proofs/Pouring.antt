-- The bytes of a stream, as the code writes them.
use Prim.Native.Nat.{ℕ, ◌-◌, ◌≤◌, ◌<◌, min}
use mathlib.Core.Path.{◌≡◌, refl, ap, ◌∙◌}
use mathlib.Core.List.{List, [], ◌++◌}
use native.Mathlib.Omega.{arith}
use mathlib.Core.Logic.{◌⊎◌, inl, inr, ⊎_elim}
use Rattle.extents.proofs.Verdicts.{le_or_gt}
use lib.ListN.{length, drop, replicate, drop_of_length-le}
use Rattle.error.specs.Answer.{Answer, Ok, Err}
use Rattle.error.specs.declared.Refusal.{Refusal}
use Rattle.text.specs.Output.{Output, at, refused, output_of, puts}
use Rattle.text.specs.Words.{pairs}
use Rattle.text.proofs.Digits.{pairs_append, pairs_join}
use Rattle.text.proofs.Writing.{puts_append, stopped}
use Rattle.btree.specs.declared.entries.Search.{Search}
use Rattle.node.specs.declared.place.Place.{Place}
use Rattle.cursor.specs.Left.{left, run_at, in_step, Begins}
use Rattle.cursor.specs.declared.steps.Step.{Step}
use Rattle.volume.specs.declared.Volume.{Volume}
use Rattle.records.specs.Extent.{extent_at}
use Rattle.records.specs.declared.extent.Extent.{Extent}
use Rattle.lists.specs.Lists.{search_of}
use Rattle.lists.specs.declared.seen.Seen.{Seen}
use Rattle.lists.specs.declared.seen.Seen.TheVariants.{Over, Passed, Element, Refused}
use Rattle.lists.specs.Seen.{seen_in}
use Rattle.lists.proofs.Reading.{run_over, run_element, run_refusal, run_on}
use Rattle.extents.specs.Extents.{Disk, disk_of}
use Rattle.streams.specs.Inner.{next_pos, step_bytes, run_bytes}

-- one piece of a text of bytes, and what is left of it
module _ (room : ℕ) (o p : Output) (x : List ℕ) (e : p ≡ puts room (pairs x []) o) where
  pub pairs_then : (y : List ℕ) (z : Output) → z ≡ puts room (pairs y []) p → z ≡ puts room (pairs (x ++ y) []) o
  pairs_then y z h = h ∙ rw (e, ← puts_append room (pairs x []) (pairs y []) o, ← pairs_append x [] (pairs y []), ← pairs_join)

  pub pairs_past : (y : List ℕ) (w : Output) → puts room (pairs (x ++ y) []) o ≡ w → puts room (pairs y []) p ≡ w
  pairs_past y w h = pairs_then y (puts room (pairs y []) p) refl ∙ h

pub no_bytes : (room : ℕ) (o : Output) → o ≡ puts room (pairs [] []) o
unfolding puts pairs
no_bytes room o = refl

pub drop_least : (k : ℕ) (b : List ℕ) → drop (min k (length b)) b ≡ drop k b
drop_least k b = of (le_or_gt k (length b))
  where
    of : (k ≤ length b) ⊎ (length b < k) → drop (min k (length b)) b ≡ drop k b
    of (inl h) = let q : min k (length b) ≡ k = omega arith in rw q
    of (inr h) = let q : min k (length b) ≡ length b = omega arith in rw (q, drop_of_length-le b {i = length b} (omega arith), drop_of_length-le b {i = k} (omega arith))

-- the bytes of what is left, by what was seen
module _ (g : Place → Answer Extent) (d : Disk) (size pos : ℕ) (b : List ℕ) (q : Search) (s : Step) (i : ℕ) (x : Seen Extent) (t : x ≡ seen_in g (in_step b q s.reached i)) where
  pub bytes_over : x ≡ Over → run_bytes g d size pos (run_at b q s i) ≡ replicate (size - pos) 0
  unfolding run_bytes
  bytes_over e = rw (run_over g b q s i x t e)

  pub bytes_no : (w : Refusal) → x ≡ Refused w → run_bytes g d size pos (run_at b q s i) ≡ []
  unfolding run_bytes
  bytes_no w e = ⊎_elim (λ h. rw h) (λ h. rw (h.3, h.2)) (run_refusal g b q s i x t w e)

  pub bytes_at : (y : Extent) (a : ℕ) → x ≡ Element y a → run_bytes g d size pos (run_at b q s i) ≡ step_bytes d size pos y ++ run_bytes g d size (next_pos size pos y) (run_at b q s a)
  unfolding run_bytes
  bytes_at y a e = let m = run_element g b q s i x t y a e in rw (m.2, m.1)

  pub bytes_passed : (n : Step) → x ≡ Passed → Begins b q n (left b q s.path s.level s.nodes) → run_bytes g d size pos (run_at b q n n.from) ≡ run_bytes g d size pos (run_at b q s i)
  bytes_passed n e h = ap (run_bytes g d size pos) (run_on g b q s i x t n e h)

  -- the turns of the writing loop
  module _ (room : ℕ) (o w : Output) (inv : puts room (pairs (run_bytes g d size pos (run_at b q s i)) []) o ≡ w) where
    pub pour_end : (n : ℕ) (z : Output) → x ≡ Over → n ≡ size - pos → z ≡ puts room (pairs (replicate n 0) []) o → z ≡ w
    pour_end n z e k h = rw k at h ∙ (rw (bytes_over e) at inv)

    pub pour_no : (v : Refusal) → x ≡ Refused v → o ≡ w
    pour_no v e = no_bytes room o ∙ (rw (bytes_no v e) at inv)

    pub pour_next : (y : Extent) (a m : ℕ) (z : Output) → x ≡ Element y a → z ≡ puts room (pairs (step_bytes d size pos y) []) o → m ≡ next_pos size pos y
        → puts room (pairs (run_bytes g d size m (run_at b q s a)) []) z ≡ w
    pour_next y a m z e k l = pairs_past room o z (step_bytes d size pos y) k _ w (rw l (rw (bytes_at y a e) at inv))

    module _ (y : Extent) (a : ℕ) (p : Answer ℕ) (c : List ℕ) (e : x ≡ Element y a) (k : output_of p c ≡ puts room (pairs (step_bytes d size pos y) []) o) where
      pub pour_got : (m n : ℕ) → m ≡ next_pos size pos y → p ≡ Ok n → puts room (pairs (run_bytes g d size m (run_at b q s a)) []) (at c n) ≡ w
      pour_got m n l h = rw h at (pour_next y a m (output_of p c) e k l)

      pub pour_broken : (v : Refusal) → p ≡ Err v → refused v ≡ w
      pour_broken v h = stopped room _ p c v w (pour_next y a (next_pos size pos y) (output_of p c) e k refl) h

    pub pour_passed : (n : Step) → x ≡ Passed → Begins b q n (left b q s.path s.level s.nodes) → puts room (pairs (run_bytes g d size pos (run_at b q n n.from)) []) o ≡ w
    pour_passed n e h = rw (bytes_passed n e h) inv

pub pour_done : (room : ℕ) (b : List ℕ) (v : Volume) (object size : ℕ) (q : Search) (s : Step) (o z : Output) → q ≡ search_of v object 8
    → z ≡ puts room (pairs (run_bytes (extent_at q.keys.reader b) (disk_of v.reader b) size 0 (run_at b q s s.from)) []) o
    → z ≡ puts room (pairs (run_bytes (extent_at v.reader b) (disk_of v.reader b) size 0 (run_at b (search_of v object 8) s s.from)) []) o
pour_done room b v object size q s o z e h = rw e at h
