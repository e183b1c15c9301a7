-- Counts that stay at 2^64 − 1, and the turns of the loops.
use Prim.Native.Nat.{ℕ, suc, max, ◌+◌, ◌-◌, ◌^◌, ◌≤◌, ◌<◌}
use mathlib.Core.Path.{◌≡◌, sym, ap, ◌∙◌}
use mathlib.Core.List.{List, []}
use mathlib.Core.Logic.{◌⊎◌, inl, inr}
use native.Mathlib.Omega.{arith}
use borrow.Author.Rules.{rules}
use lib.ListN.{length}
use Rattle.error.specs.Answer.{Answer, Ok, Err}
use Rattle.error.specs.declared.Refusal.{Refusal}
use Rattle.lookup.specs.declared.counted.Counted.{Counted}
use Rattle.totals.specs.Totals.{counts}
use Rattle.btree.specs.Scan.{scan_of}
use Rattle.btree.specs.declared.entries.Search.{Search}
use Rattle.cursor.specs.Left.{left, run_at, in_step, Begins}
use Rattle.cursor.specs.declared.steps.Step.{Step}
use Rattle.volume.specs.declared.Volume.{Volume}
use Rattle.volume.specs.Rule.{hashed_keys}
use Rattle.inode_record.specs.declared.inode.Inode.{Inode}
use Rattle.records.specs.Attribute.{attribute_at}
use Rattle.records.specs.Directory.{entry_at}
use Rattle.records.specs.declared.attribute.Attribute.{Attribute}
use Rattle.records.specs.declared.directory.Entry.{Entry}
use Rattle.lists.specs.Lists.{search_of, inode_of}
use Rattle.lists.specs.Inner.{readable}
use Rattle.lists.specs.declared.seen.Seen.{Seen}
use Rattle.lists.specs.declared.seen.Seen.TheVariants.{Over, Passed, Element, Refused}
use Rattle.lists.specs.Seen.{seen_in}
use Rattle.lists.proofs.Reading.{less_at, less_passed, readable_over, readable_no, readable_at, readable_passed}
use Rattle.tally.specs.declared.counts.Tally.{Tally}
use Rattle.tally.specs.Weight.{Weight, tally_told, cap, capped, no_weight, beside, under, entered, shown_size, attributes_on, entries_on, own_weight, weigh_all, weight_by, weight}

pub entry_told_lem : (t x r : Tally) (m : ℕ) → r.nodes ≡ cap (t.nodes + x.nodes) → r.bytes ≡ cap (t.bytes + x.bytes) → r.attrs ≡ cap (t.attrs + x.attrs) → m ≡ cap (x.below + 1)
    → r.below ≡ max t.below m → tally_told r ≡ entered (tally_told t) (tally_told x)
entry_told_lem t x r m a b c d e = λ i. record { totals = counts (a i) (b i) (c i); below = (e ∙ ap (max t.below) d) i }

-- ---- attributes

module _ (b : List ℕ) (q : Search) (s : Step) (i n whole : ℕ) (inv : cap (n + length (readable (attribute_at q.keys.reader b) (run_at b q s i))) ≡ whole) (k : n ≤ 2 ^ 64 - 1)
    (x : Seen Attribute) (t : x ≡ seen_in (attribute_at q.keys.reader b) (in_step b q s.reached i)) where
  none_left : readable (attribute_at q.keys.reader b) (run_at b q s i) ≡ [] → n ≡ whole
  none_left e = omega (arith, rw e at inv)

  pub count_over : x ≡ Over → n ≡ whole
  count_over e = none_left (readable_over (attribute_at q.keys.reader b) b q s i x t e)

  pub count_no : (z : Refusal) → x ≡ Refused z → n ≡ whole
  count_no z e = none_left (readable_no (attribute_at q.keys.reader b) b q s i x t z e)

  pub count_passed : (m : Step) → x ≡ Passed → Begins b q m (left b q s.path s.level s.nodes) → cap (n + length (readable (attribute_at q.keys.reader b) (run_at b q m m.from))) ≡ whole
  count_passed m e h = rw (readable_passed (attribute_at q.keys.reader b) b q s i x t m e h) inv

  pub count_next : (a : Attribute) (c m : ℕ) → x ≡ Element a c → m ≡ cap (n + 1) → cap (m + length (readable (attribute_at q.keys.reader b) (run_at b q s c))) ≡ whole
  count_next a c m e g = let l = rw (readable_at (attribute_at q.keys.reader b) b q s i x t a c e) at inv in omega arith

pub count_small : (n m : ℕ) → m ≡ cap n → m ≤ 2 ^ 64 - 1
count_small n m e = omega arith

pub count_done : (b : List ℕ) (v : Volume) (id n : ℕ) (q : Search) (s : Step) → q ≡ search_of v id 4 → n ≡ cap (0 + length (readable (attribute_at q.keys.reader b) (run_at b q s s.from)))
    → n ≡ cap (length (readable (attribute_at v.reader b) (run_at b (search_of v id 4) s s.from)))
count_done b v id n q s e h = omega (arith, rw e at h)

-- ---- a node by itself

pub own_told : (b : List ℕ) (v : Volume) (id : ℕ) (i : Inode) (s : Step) (z n : ℕ) → Begins b (search_of v id 4) s (scan_of b (search_of v id 4) 0) → z ≡ shown_size i → z < 2 ^ 64
    → n ≡ cap (length (readable (attribute_at v.reader b) (run_at b (search_of v id 4) s s.from)))
    → record { totals = counts 1 z n; below = 0 } ≡ capped (own_weight b v id i)
unfolding attributes_on
own_told b v id i s z n g y h k =
    let a : z ≡ cap (shown_size i) = omega arith in
    let c : n ≡ cap (length (readable (attribute_at v.reader b) (scan_of b (search_of v id 4) 0))) = rw g.run at k in
    λ j. record { totals = counts 1 (a j) (c j); below = 0 }

-- ---- a node and all below it

-- no count passes 2^64 − 1
pub record Small (w : Weight) : Type 0 where
  pub nodes : w.totals.nodes ≤ 2 ^ 64 - 1
  pub bytes : w.totals.bytes ≤ 2 ^ 64 - 1
  pub attrs : w.totals.attrs ≤ 2 ^ 64 - 1
  pub below : w.below ≤ 2 ^ 64 - 1

pub capped_small : (t w : Weight) → t ≡ capped w → Small t
capped_small t w e = rw e (record { nodes = omega arith; bytes = omega arith; attrs = omega arith; below = omega arith })

pub entered_small : (t u x : Weight) → Small t → u ≡ entered t x → Small u
entered_small t u x s e = rw e (record { nodes = omega arith; bytes = omega arith; attrs = omega arith; below = omega (arith, s.below) })

small_capped : (t : Weight) → Small t → capped (beside t no_weight) ≡ t
small_capped t s =
    let a : cap (t.totals.nodes + 0) ≡ t.totals.nodes = omega (arith, s.nodes) in
    let b : cap (t.totals.bytes + 0) ≡ t.totals.bytes = omega (arith, s.bytes) in
    let c : cap (t.totals.attrs + 0) ≡ t.totals.attrs = omega (arith, s.attrs) in
    let d : cap (max t.below 0) ≡ t.below = omega (arith, s.below) in
    λ i. record { totals = counts (a i) (b i) (c i); below = d i }

max_assoc : (x y z : ℕ) → max (max x y) z ≡ max x (max y z)
max_assoc x y z = omega arith

cap_max : (x y : ℕ) → cap (max x y) ≡ max (cap x) (cap y)
cap_max x y = omega arith

cap_cap : (x : ℕ) → cap (cap x) ≡ cap x
cap_cap x = omega arith

cap_suc : (x : ℕ) → cap (cap x + 1) ≡ cap (suc x)
cap_suc x = omega arith

-- an entry's node that was counted, with what is left; and a node by itself, with its entries
entered_capped : (t w l : Weight) → capped (beside (entered t (capped w)) l) ≡ capped (beside t (beside (under w) l))
entered_capped t w l =
    let count : (x y z : ℕ) → cap (cap (x + cap y) + z) ≡ cap (x + (y + z)) = λ x y z. omega arith in
    let depth : (x y z : ℕ) → cap (max (max x (cap (cap y + 1))) z) ≡ cap (max x (max (suc y) z))
    = λ x y z. rw (cap_suc y) (simp (cap_max, cap_cap, max_assoc)) in
    λ i. record {
      totals = counts (count t.totals.nodes w.totals.nodes l.totals.nodes i) (count t.totals.bytes w.totals.bytes l.totals.bytes i) (count t.totals.attrs w.totals.attrs l.totals.attrs i);
      below = depth t.below w.below l.below i;
    }

beside_capped : (t l : Weight) → capped (beside (capped t) l) ≡ capped (beside t l)
beside_capped t l =
    let count : (x z : ℕ) → cap (cap x + z) ≡ cap (x + z) = λ x z. omega arith in
    let depth : (x z : ℕ) → cap (max (cap x) z) ≡ cap (max x z) = λ x z. simp (cap_max, cap_cap) in
    λ i. record {
      totals = counts (count t.totals.nodes l.totals.nodes i) (count t.totals.bytes l.totals.bytes i) (count t.totals.attrs l.totals.attrs i);
      below = depth t.below l.below i;
    }

-- the turns of the loop over the entries
module _ (w : ℕ → Weight) (b : List ℕ) (q : Search) (s : Step) (i : ℕ) (u whole : Weight)
    (inv : capped (beside u (weigh_all w (readable (entry_at q.keys.hashed q.keys.reader b) (run_at b q s i)))) ≡ whole) (k : Small u)
    (x : Seen Entry) (t : x ≡ seen_in (entry_at q.keys.hashed q.keys.reader b) (in_step b q s.reached i)) where
  nothing_left : readable (entry_at q.keys.hashed q.keys.reader b) (run_at b q s i) ≡ [] → u ≡ whole
  unfolding weigh_all
  nothing_left e = sym (small_capped u k) ∙ (rw e at inv)

  pub weigh_ended : (x ≡ Over) ⊎ ((z : Refusal) × (x ≡ Refused z)) → u ≡ whole
  weigh_ended (inl e) = nothing_left (readable_over (entry_at q.keys.hashed q.keys.reader b) b q s i x t e)
  weigh_ended (inr (z, e)) = nothing_left (readable_no (entry_at q.keys.hashed q.keys.reader b) b q s i x t z e)

  pub weigh_passed : (m : Step) → x ≡ Passed → Begins b q m (left b q s.path s.level s.nodes)
      → capped (beside u (weigh_all w (readable (entry_at q.keys.hashed q.keys.reader b) (run_at b q m m.from)))) ≡ whole
  weigh_passed m e h = rw (readable_passed (entry_at q.keys.hashed q.keys.reader b) b q s i x t m e h) inv

  pub weigh_next : (a : Entry) (c : ℕ) (y r : Weight) → x ≡ Element a c → y ≡ capped (w a.file_id) → r ≡ entered u y
      → capped (beside r (weigh_all w (readable (entry_at q.keys.hashed q.keys.reader b) (run_at b q s c)))) ≡ whole
  unfolding weigh_all
  weigh_next a c y r e g h =
      let l = weigh_all w (readable (entry_at q.keys.hashed q.keys.reader b) (run_at b q s c)) in
      ap (λ (z : Weight). capped (beside z l)) (h ∙ ap (entered u) g) ∙ entered_capped u (w a.file_id) l
      ∙ ap (λ (es : List Entry). capped (beside u (weigh_all w es))) (sym (readable_at (entry_at q.keys.hashed q.keys.reader b) b q s i x t a c e)) ∙ inv

-- the node, by what was read of its inode
module _ (b : List ℕ) (v : Volume) (id levels : ℕ) where
  pub weight_none : levels ≡ 0 → no_weight ≡ capped (weight b v levels id)
  unfolding weight
  weight_none e = rw e

  module _ (k : levels ≡ 0 → ⊥) (r : Counted Inode) (p : r ≡ inode_of b v id 0) where
    one_less : weight b v levels id ≡ weight_by b v (weight b v (levels - 1)) id (inode_of b v id 0).answer
    unfolding weight
    one_less = let m : levels ≡ suc (levels - 1) = omega arith in ap (λ (n : ℕ). weight b v n id) m

    read_as : (x : Answer Inode) → r.answer ≡ x → (inode_of b v id 0).answer ≡ x
    read_as x q = ap (λ (c : Counted Inode). c.answer) (sym p) ∙ q

    pub weight_no : (w : Refusal) → r.answer ≡ Err w → no_weight ≡ capped (weight b v levels id)
    weight_no w q = sym (ap capped (one_less ∙ ap (weight_by b v (weight b v (levels - 1)) id) (read_as (Err w) q)))

    -- the loop that ended
    pub weight_done : (i : Inode) (q : Search) (t : Step) (o z : Weight) → r.answer ≡ Ok i → q ≡ search_of v id 9 → Begins b (search_of v id 9) t (scan_of b (search_of v id 9) 0)
        → o ≡ capped (own_weight b v id i) → z ≡ capped (beside o (weigh_all (weight b v (levels - 1)) (readable (entry_at q.keys.hashed q.keys.reader b) (run_at b q t t.from)))) → z ≡ capped (weight b v levels id)
    unfolding entries_on
    weight_done i q t o z f e g h last =
        let w = weight b v (levels - 1) in
        let all : readable (entry_at q.keys.hashed q.keys.reader b) (run_at b q t t.from) ≡ readable (entry_at (hashed_keys v) v.reader b) (scan_of b (search_of v id 9) 0)
        = ap (λ (a : Search). readable (entry_at a.keys.hashed a.keys.reader b) (run_at b a t t.from)) e ∙ ap (readable (entry_at (hashed_keys v) v.reader b)) g.run in
        last ∙ (λ j. capped (beside (h j) (weigh_all w (all j)))) ∙ beside_capped (own_weight b v id i) (weigh_all w (readable (entry_at (hashed_keys v) v.reader b) (scan_of b (search_of v id 9) 0)))
        ∙ sym (ap capped (one_less ∙ ap (weight_by b v w id) (read_as (Ok i) f)))

pub some_left : (n : ℕ) → (n ≡ 0 → ⊥) → 1 ≤ n
some_left n h = omega arith

pub less_left : (n t : ℕ) → (n ≡ 0 → ⊥) → n ≡ t → n - 1 < t
less_left n t h e = omega arith

pub ruleset nodes = (rules, less_at, less_passed, weight_none, weight_no, some_left)
