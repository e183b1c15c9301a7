-- An element of a list by its place, as the loops find it, and an inode as the first record of its id.
use Prim.Native.Nat.{ℕ, zero, suc, ◌-◌, ◌≤◌, ◌<◌}
use mathlib.Core.Path.{◌≡◌, refl, sym, ap, ◌∙◌}
use mathlib.Core.Bool.{Bool}
use mathlib.Core.List.{List, [], ◌∷◌}
use Rattle.std.specs.Prelude.{Option}
use native.Mathlib.Omega.{arith}
use Rattle.error.specs.Answer.{Answer, Ok, Err, ◌>>=◌}
use Rattle.error.specs.declared.Refusal.{Refusal}
use Rattle.error.specs.declared.Refusal.TheVariants.{NotFound}
use Rattle.lookup.specs.declared.counted.Counted.{Counted}
use Rattle.lookup.specs.Counted.{after}
use Rattle.btree.specs.Scan.{Run}
use Rattle.btree.specs.Scan as scan
use Rattle.btree.specs.declared.entries.Search.{Search}
use Rattle.node.specs.declared.place.Place.{Place}
use Rattle.cursor.specs.Left.{run_at, in_step}
use Rattle.volume.specs.Rule.{hashed_keys}
use Rattle.volume.specs.declared.Volume.{Volume}
use Rattle.lookup.specs.declared.map.Resolve.TheVariants.{Mapped}
use Rattle.inode_record.specs.Inode.{inode_at}
use Rattle.cursor.specs.declared.steps.Step.{Step}
use Rattle.lists.specs.Lists.{search_of, list_of, element_at, placed, inode_of}
use Rattle.lists.specs.declared.seen.Seen.{Seen}
use Rattle.lists.specs.declared.seen.Seen.TheVariants.{Over, Element}
use Rattle.lists.specs.Seen.{seen_in}
use Rattle.records.proofs.Laws as record-laws
use Rattle.lists.proofs.Reading.{reading, list_start, list_over, list_at}
use Rattle.inode_record.specs.declared.inode.Inode.{Inode}
use Rattle.std.specs.Prelude.{None, Option, Some}
use Rattle.std.specs.Option.{option_or}

-- the search of a volume's records, with the form of its directory keys
pub search_is : (v : Volume) (id kind : ℕ) (d : Bool) → d ≡ hashed_keys v
    → record { keys = record { reader = v.reader; info = v.info; id = id; kind = kind; hashed = d }; root = v.root; resolve = Mapped v.map } ≡ search_of v id kind
search_is v id kind d e = rw e

abbrev seek : {A : Type 0} → Option A → ℕ → List A → Option A
seek None left xs = element_at left xs
seek (Some x) left xs = Some x

-- what is found in the list that is left, where o was kept and `left` elements are to be passed
unfoldable pub sought : {A : Type 0} → Option A → ℕ → List A → Answer (Option A)
sought o left xs = Ok (seek o left xs)

seek_pass : {A : Type 0} (o : Option A) (left : ℕ) (x : A) (xs : List A) → 0 < left → seek o left (x ∷ xs) ≡ seek o (left - 1) xs
unfolding element_at
seek_pass None zero x xs h = absurd (omega arith)
seek_pass None (suc n) x xs h = let q : suc n - 1 ≡ n = omega arith in rw q
seek_pass (Some y) n x xs h = refl

seek_here : {A : Type 0} (o : Option A) (x : A) (xs : List A) → seek o 0 (x ∷ xs) ≡ seek (option_or o (Some x)) 0 xs
unfolding element_at
seek_here None x xs = refl
seek_here (Some y) x xs = refl

seek_end : {A : Type 0} (o : Option A) (left : ℕ) → seek o left [] ≡ o
unfolding element_at
seek_end None zero = refl
seek_end None (suc n) = refl
seek_end (Some x) n = refl

module _ {A : Type 0} (g : Place → Answer A) where
  pub place_start : (place : ℕ) (r : Run) → reading g (sought None place) r ≡ placed place (list_of g r)
  unfolding sought
  place_start place r = list_start g (sought None place) r

  module _ (b : List ℕ) (q : Search) (s : Step) (i : ℕ) (y : Seen A) (t : y ≡ seen_in g (in_step b q s.reached i))
      (o : Option A) (left : ℕ) (whole : Counted (Option A)) (inv : reading g (sought o left) (run_at b q s i) ≡ whole) where
    pub place_over : y ≡ Over → after s.nodes (Ok o) ≡ whole
    unfolding sought
    place_over e = ap (λ (z : Option A). after s.nodes (Ok z)) (sym (seek_end o left)) ∙ list_over g b q s i y t (sought o left) whole inv e

    pub place_more : (x : A) (c : ℕ) → y ≡ Element x c → 0 < left → reading g (sought o (left - 1)) (run_at b q s c) ≡ whole
    unfolding sought
    place_more x c e h = list_at g b q s i y t (sought o left) whole inv (sought o (left - 1)) x c e (λ xs. ap (λ (z : Option A). Ok z) (seek_pass o left x xs h))

    pub place_here : (x : A) (c : ℕ) → y ≡ Element x c → left ≤ 0 → reading g (sought (option_or o (Some x)) left) (run_at b q s c) ≡ whole
    unfolding sought
    place_here x c e h =
        let n : left ≡ 0 = omega arith in
        list_at g b q s i y t (sought o left) whole inv (sought (option_or o (Some x)) left) x c e (λ xs. rw n (ap (λ (z : Option A). Ok z) (seek_here o x xs)))

-- an inode, by the first record of its id
module _ (b : List ℕ) (v : Volume) (id s : ℕ) (q : Search) (r : Counted (Option Place)) (e : q ≡ search_of v id 3) (p : r ≡ scan.nth 0 (scan.scan_of b q s)) where
  scanned : r ≡ scan.nth 0 (scan.scan_of b (search_of v id 3) s)
  scanned = rw e at p

  pub first_at : (x : Place) (w : Answer Inode) → r.answer ≡ Ok (Some x) → w ≡ inode_at v.reader b x id → after r.nodes w ≡ inode_of b v id s
  unfolding inode_of
  first_at x w h k = rw (← scanned, h, k)

  pub first_none : r.answer ≡ (Ok None) → after r.nodes (Err NotFound) ≡ inode_of b v id s
  unfolding inode_of
  first_none h = rw (← scanned, h)

  pub first_no : (w : Refusal) → r.answer ≡ Err w → after r.nodes (Err w) ≡ inode_of b v id s
  unfolding inode_of
  first_no w h = rw (← scanned, h)

pub ruleset all = (record-laws.all, first_at, first_none, first_no)
