-- The checkpoints of a container, listed and opened by number: proof of what specs/Numbers.antt says.
use Prim.Native.Nat.{ℕ, zero, suc, ◌+◌, ◌*◌, ◌/◌, ◌%◌, ◌^◌, ◌≤◌, ◌<◌, max, min}
use mathlib.Core.Path.{◌≡◌, refl, sym, ap, subst, ◌∙◌}
use mathlib.Core.List.{List, [], ◌∷◌}
use Rattle.std.specs.Prelude.{Option, None, Some}
use lib.ListN.{length}
use native.Mathlib.Decide.{dec_le}
use native.Mathlib.Omega.{arith}
use Rattle.error.specs.Answer.{Answer, Ok, Err, ◌>>=◌, if_eq}
use Rattle.error.specs.declared.Refusal.TheVariants.{Unsupported, ImageTooLarge}
use Rattle.error.proofs.Laws.{got_is, bound, at_most_lem, above, eq_cases}
use Rattle.obj.specs.declared.reader.Reader.{Reader}
use Rattle.lookup.specs.declared.counted.Counted.{Counted}
use Rattle.lookup.specs.Counted.{after, from}
use Rattle.omap.specs.Load.{map_at}
use Rattle.omap.proofs.Depth.{from_got, map_number}
use Rattle.geometry.specs.BlockZero.{geometry_at, area_at}
use Rattle.geometry.specs.declared.Geometry.{Geometry}
use Rattle.checkpoints.specs.Checkpoint.{accepted_at, block_place, latest_in, or_corrupt, checkpoint_of}
use Rattle.checkpoints.specs.Numbers.{numbered_in, or_no_checkpoint, numbered_of, checkpoint_by, kept, numbers_in, insert, descending, some_numbers, numbers_of, numbers_at}
use Rattle.checkpoints.specs.declared.superblock.Superblock.{Superblock}
use Rattle.checkpoints.specs.declared.by_number.Choice.{Choice}
use Rattle.checkpoints.specs.declared.by_number.Choice.TheVariants as choice
use Rattle.checkpoints.proofs.Asked.{nothing, same_some}
use Rattle.checkpoints.proofs.Latest.{Accepted, split, latest_of, none_of}
use Rattle.checkpoints.proofs.Numbered.{numbered_of_lem, unnumbered_of}
use Rattle.nx.specs.Open.{supported, chosen_of, mapped_of, container_of, open_at}
use Rattle.nx.specs.declared.container.Container.{Container}
use Rattle.nx.specs.LatestCheckpoint.{size, xid_of, superblock_of, Candidate, opened_as, AreaRead}
use Rattle.nx.specs.Numbers.{NoneAbove, Descends, times, HowMany, none_left, one, not_one, Numbered, Lists, listed, none_listed, OpensBy, at_number_lem, no_number, RefusedAlike, NumberedCheckpoints}
use Rattle.nx.proofs.BlockZero.{zero_read, area_got}
use Rattle.nx.proofs.LatestCheckpoint as at-bytes

-- ---- putting numbers in order

weaker : (m x : ℕ) (l : List ℕ) → x ≤ m → NoneAbove x l → NoneAbove m l
weaker m x [] h p = tt
weaker m x (y ∷ l) h p = (omega (arith, p.0), weaker m x l h p.1)

insert_above : (m x : ℕ) (l : List ℕ) → x ≤ m → NoneAbove m l → NoneAbove m (insert x l)
unfolding insert
insert_above m x [] h p = (h, tt)
insert_above m x (y ∷ l) h p = (omega (arith, p.0), insert_above m (min x y) l (omega arith) p.1)

insert_descends : (x : ℕ) (l : List ℕ) → Descends l → Descends (insert x l)
unfolding insert
insert_descends x [] p = (tt, tt)
insert_descends x (y ∷ l) p =
    (insert_above (max x y) (min x y) l (omega arith) (weaker (max x y) y l (omega arith) p.0), insert_descends (min x y) l p.1)

descending_descends : (l : List ℕ) → Descends (descending l)
unfolding descending
descending_descends [] = tt
descending_descends (x ∷ l) = insert_descends x (descending l) (descending_descends l)

both : (z x y : ℕ) → if_eq (max x y) z 1 0 + if_eq (min x y) z 1 0 ≡ if_eq x z 1 0 + if_eq y z 1 0
both z x y = of (dec_le x y)
  where
    of : Dec (x ≤ y) → if_eq (max x y) z 1 0 + if_eq (min x y) z 1 0 ≡ if_eq x z 1 0 + if_eq y z 1 0
    of (Dec.yes h) = let p : max x y ≡ y = omega arith in let q : min x y ≡ x = omega arith in rw (p, q) (omega arith)
    of (Dec.no h) = let p : max x y ≡ x = omega arith in let q : min x y ≡ y = omega arith in rw (p, q)

times_insert : (z x : ℕ) (l : List ℕ) → times z (insert x l) ≡ if_eq x z 1 0 + times z l
unfolding insert times
times_insert z x [] = refl
times_insert z x (y ∷ l) = omega (arith, times_insert z (min x y) l, both z x y)

times_descending : (z : ℕ) (l : List ℕ) → times z (descending l) ≡ times z l
unfolding descending times
times_descending z [] = refl
times_descending z (x ∷ l) = times_insert z x (descending l) ∙ ap (λ (n : ℕ). if_eq x z 1 0 + n) (times_descending z l)

-- a number that stands in a list is none above
among : (m z : ℕ) (l : List ℕ) → NoneAbove m l → 0 < times z l → z ≤ m
unfolding times
among m z [] p = λ h. absurd (omega arith)
among m z (y ∷ l) p =
    eq_cases (λ (n : ℕ). 0 < n + times z l → z ≤ m) (λ e h. omega (arith, p.0)) (λ e h. among m z l p.1 (omega arith))

first_stands : (x : ℕ) (l : List ℕ) → 0 < times x (x ∷ l)
unfolding times
first_stands x l = eq_cases (λ (m : ℕ). 0 < m + times x l) (λ h. omega arith) (λ h. absurd (h refl))

-- ---- the numbers of n blocks from the k-th on
module _ (r : Reader) (image : List ℕ) (start ring : ℕ) where
  abbrev numbers : ℕ → ℕ → List ℕ
  numbers n k = numbers_in r image start ring n k

  -- an accepted block's number stands among them
  stands : (n k j : ℕ) (o : Superblock) → k ≤ j → j < k + n → Accepted r image start ring j o → 0 < times o.xid (numbers n k)
  unfolding numbers_in times
  stands zero k j o h t a = absurd (omega arith)
  stands (suc n) k j o h t a = split r image start ring n k j o h t a (λ y q. first (accepted_at r image ring (block_place r start k)) y) (λ u v. rest (accepted_at r image ring (block_place r start k)) (stands n (k + 1) j o u v a))
    where
      first : (x : Option Superblock) → x ≡ Some o → 0 < times o.xid (kept x (numbers n (k + 1)))
      first (Some s) e = let q : s.xid ≡ o.xid = ap (λ (u : Superblock). u.xid) (same_some e) in eq_cases (λ (m : ℕ). 0 < m + times o.xid (numbers n (k + 1))) (λ h. omega arith) (λ h. absurd (h q))
      first None e = nothing e

      rest : (x : Option Superblock) → 0 < times o.xid (numbers n (k + 1)) → 0 < times o.xid (kept x (numbers n (k + 1)))
      rest (Some s) p = omega arith
      rest None p = p

  -- and each of them is an accepted block's
  abbrev Block : ℕ → ℕ → ℕ → Type 0
  Block z n k = (j : ℕ) × (o : Superblock) × (k ≤ j) × (j < k + n) × Accepted r image start ring j o × (o.xid ≡ z)

  from_block : (z n k : ℕ) → 0 < times z (numbers n k) → Block z n k
  unfolding numbers_in times
  from_block z zero k h = absurd (omega arith)
  from_block z (suc n) k h = of (from_block z n (k + 1)) (accepted_at r image ring (block_place r start k)) refl h
    where
      later : Block z n (k + 1) → Block z (suc n) k
      later q = (q.0, q.1, omega (arith, q.2), omega (arith, q.3), q.4, q.5)

      of : (0 < times z (numbers n (k + 1)) → Block z n (k + 1)) → (x : Option Superblock) → accepted_at r image ring (block_place r start k) ≡ x → 0 < times z (kept x (numbers n (k + 1))) → Block z (suc n) k
      of on (Some s) e =
          eq_cases (λ (m : ℕ). 0 < m + times z (numbers n (k + 1)) → Block z (suc n) k)
          (λ q t. (k, s, omega arith, omega arith, e, q)) (λ q t. later (on (omega arith)))
      of on None e = λ p. later (on p)

  -- the greatest of them is the latest's, and the earliest of that number is the latest
  first_latest : (n k x : ℕ) (l : List ℕ) → descending (numbers n k) ≡ x ∷ l
      → (sb : Superblock) × (latest_in r image start ring n k ≡ Some sb) × (numbered_in r image start ring x n k ≡ Some sb)
  first_latest n k x l e = latest (latest_in r image start ring n k) refl
    where
      greatest : (j : ℕ) (o : Superblock) → k ≤ j → j < k + n → Accepted r image start ring j o → o.xid ≤ x
      greatest j o h t a =
          let p : 0 < times o.xid (x ∷ l) = subst (λ (m : List ℕ). 0 < times o.xid m) e (rw (times_descending o.xid (numbers n k)) (stands n k j o h t a)) in
          let d : Descends (x ∷ l) = subst Descends e (descending_descends (numbers n k)) in
          among x o.xid (x ∷ l) (omega arith, d.0) p

      there : Block x n k
      there = from_block x n k (rw (← times_descending x (numbers n k), e) (first_stands x l))

      numbered : (sb : Superblock) → latest_in r image start ring n k ≡ Some sb → (a : Option Superblock) → numbered_in r image start ring x n k ≡ a → a ≡ Some sb
      numbered sb q (Some s) p =
          let t = latest_of r image start ring n k sb q in
          let u = numbered_of_lem r image start ring x n k s p in
          let w = there in
          let b : sb.xid ≡ x = (let lo = greatest t.own sb t.from t.before t.accepted in let hi = t.greatest w.0 w.1 w.2 w.3 w.4 in omega (arith, w.5)) in
          let c = t.earliest u.own s u.from u.before u.accepted (u.number ∙ sym b) in
          let d = u.earliest t.own sb t.from t.before t.accepted b in
          let m : u.own ≡ t.own = omega arith in
          sym (rw m at u.accepted) ∙ t.accepted
      numbered sb q None p =
          let t = latest_of r image start ring n k sb q in
          let w = there in
          let b : sb.xid ≡ x = (let lo = greatest t.own sb t.from t.before t.accepted in let hi = t.greatest w.0 w.1 w.2 w.3 w.4 in omega (arith, w.5)) in
          absurd (unnumbered_of r image start ring x n k p t.own sb t.from t.before t.accepted b)

      latest : (a : Option Superblock) → latest_in r image start ring n k ≡ a → (sb : Superblock) × (latest_in r image start ring n k ≡ Some sb) × (numbered_in r image start ring x n k ≡ Some sb)
      latest (Some sb) q = (sb, q, numbered sb q (numbered_in r image start ring x n k) refl)
      latest None q = let w = there in absurd (none_of r image start ring n k q w.0 w.1 w.2 w.3 w.4)

-- ---- over the bytes of an image
module _ (image : List ℕ) (g : Geometry) (big : 4096 ≤ g.reader.block_size) (lies : g.base * size image g + g.ring * size image g ≤ length image) where
  abbrev At : ℕ → Superblock → Type 0
  At j o = Accepted g.reader image (g.base * size image g) g.ring j o

  candidate_at : (j : ℕ) (o : Superblock) → j < g.ring → At j o → Candidate image g j × (superblock_of image g j ≡ o)
  candidate_at j o h a =
      let m = at-bytes.accepted_means image g big lies j h o (rw (at-bytes.same_place image g big lies j) at a) in
      (m.1, m.0)

  accepted_at_lem : (j : ℕ) → Candidate image g j → At j (superblock_of image g j)
  accepted_at_lem j c = rw (at-bytes.same_place image g big lies j) (at-bytes.accepted_if image g big lies j c.inside c)

  abbrev all : List ℕ
  all = numbers_in g.reader image (g.base * size image g) g.ring g.ring 0

  counted : (x n k : ℕ) → k + n ≤ g.ring → HowMany (Numbered image g x) k n (times x (numbers_in g.reader image (g.base * size image g) g.ring n k))
  unfolding numbers_in times
  counted x zero k h = none_left
  counted x (suc n) k h = of (accepted_at g.reader image g.ring (block_place g.reader (g.base * size image g) k)) refl (counted x n (k + 1) (omega arith))
    where
      rest : List ℕ
      rest = numbers_in g.reader image (g.base * size image g) g.ring n (k + 1)

      of : (a : Option Superblock) → accepted_at g.reader image g.ring (block_place g.reader (g.base * size image g) k) ≡ a → HowMany (Numbered image g x) (k + 1) n (times x rest)
          → HowMany (Numbered image g x) k (suc n) (times x (kept a rest))
      of (Some s) e p =
          let c = candidate_at k s (omega arith) e in
          let y : xid_of image g k ≡ s.xid = ap (λ (u : Superblock). u.xid) c.1 in
          eq_cases (λ (m : ℕ). HowMany (Numbered image g x) k (suc n) (m + times x rest))
          (λ q. let t : 1 + times x rest ≡ suc (times x rest) = omega arith in rw t (one (c.0, y ∙ q) p))
          (λ q. let t : 0 + times x rest ≡ times x rest = omega arith in rw t (not_one (λ z. q (sym y ∙ z.1)) p))
      of None e p = not_one (λ z. nothing (sym e ∙ accepted_at_lem k z.0)) p

  lists : numbers_at image ≡ some_numbers (descending all) → Lists image g
  unfolding times
  lists e = of (descending all) refl e
    where
      total : (z : ℕ) (l : List ℕ) → descending all ≡ l → times z all ≡ times z l
      total z l q = sym (times_descending z all) ∙ ap (times z) q

      of : (l : List ℕ) → descending all ≡ l → numbers_at image ≡ some_numbers l → Lists image g
      of [] q p = none_listed (λ i c. let s = stands g.reader image (g.base * size image g) g.ring g.ring 0 i (superblock_of image g i) (omega arith) (omega (arith, c.inside)) (accepted_at_lem i c) in omega (arith, total (xid_of image g i) [] q)) p
      of (x ∷ l) q p = listed (x ∷ l) (rw q at (descending_descends all)) (λ z. rw (← total z (x ∷ l) q) (counted z g.ring 0 (omega arith))) p

  opens_by : (x : ℕ) → open_at (choice.Number x) image ≡ from 0 (or_no_checkpoint (numbered_in g.reader image (g.base * size image g) g.ring x g.ring 0) >>= supported) (λ s. mapped_of image g.reader s) → OpensBy image g x
  opens_by x e = of (numbered_in g.reader image (g.base * size image g) g.ring x g.ring 0) refl
    where
      of : (a : Option Superblock) → numbered_in g.reader image (g.base * size image g) g.ring x g.ring 0 ≡ a → OpensBy image g x
      of (Some sb) t =
          let n = numbered_of_lem g.reader image (g.base * size image g) g.ring x g.ring 0 sb t in
          let c = candidate_at n.own sb (omega (arith, n.before)) n.accepted in
          let y : xid_of image g n.own ≡ x = ap (λ (u : Superblock). u.xid) c.1 ∙ n.number in
          at_number_lem n.own (c.0, y) (λ j z. n.earliest j (superblock_of image g j) (omega arith) (omega (arith, z.0.inside)) (accepted_at_lem j z.0) z.1)
          (e ∙ rw t (at-bytes.supported_opened image g sb ∙ ap (λ (s : Superblock). opened_as image g s) (sym c.1)))
      of None t =
          no_number (λ i z. unnumbered_of g.reader image (g.base * size image g) g.ring x g.ring 0 t i (superblock_of image g i) (omega arith) (omega (arith, z.0.inside)) (accepted_at_lem i z.0) z.1)
          (e ∙ rw t)

-- ---- the tests before
module _ (image : List ℕ) where
  open_within : (c : Choice) → length image ≤ 2 ^ 34 → open_at c image ≡ from 0 (geometry_at image) (λ g. container_of c image g)
  unfolding open_at
  open_within c h = sym (at_most_lem _ _ _ _ _ h refl)

  open_beyond : (c : Choice) → 2 ^ 34 < length image → open_at c image ≡ after 0 (Err ImageTooLarge)
  unfolding open_at
  open_beyond c h = sym (above _ _ _ _ _ h refl)

  list_within : length image ≤ 2 ^ 34 → numbers_at image ≡ (geometry_at image >>= λ g. numbers_of image g)
  unfolding numbers_at
  list_within h = sym (at_most_lem _ _ _ _ _ h refl)

  list_beyond : 2 ^ 34 < length image → numbers_at image ≡ Err ImageTooLarge
  unfolding numbers_at
  list_beyond h = sym (above _ _ _ _ _ h refl)

  refused_alike : ((length image ≤ 2 ^ 34) × AreaRead image → ⊥) → RefusedAlike image
  unfolding container_of chosen_of checkpoint_of numbered_of numbers_of
  refused_alike f = sized (dec_le (length image) (2 ^ 34))
    where
      area : length image ≤ 2 ^ 34 → (g : Geometry) → geometry_at image ≡ Ok g → (a : Answer ℕ) → area_at (length image) g ≡ a → RefusedAlike image
      area h g p (Ok s) q = absurd (f (h, (g, s, p, q)))
      area h g p (Err e) q = record {
        why = e;
        latest = open_within choice.Latest h ∙ rw (p, q);
        by_number = λ x. open_within (choice.Number x) h ∙ rw (p, q);
        list = list_within h ∙ rw (p, q);
      }

      zero : length image ≤ 2 ^ 34 → (a : Answer Geometry) → geometry_at image ≡ a → RefusedAlike image
      zero h (Ok g) p = area h g p (area_at (length image) g) refl
      zero h (Err e) p = record {
        why = e;
        latest = open_within choice.Latest h ∙ rw p;
        by_number = λ x. open_within (choice.Number x) h ∙ rw p;
        list = list_within h ∙ rw p;
      }

      sized : Dec (length image ≤ 2 ^ 34) → RefusedAlike image
      sized (Dec.yes h) = zero h (geometry_at image) refl
      sized (Dec.no h) = record {
        why = ImageTooLarge;
        latest = open_beyond choice.Latest (omega arith);
        by_number = λ x. open_beyond (choice.Number x) (omega arith);
        list = list_beyond (omega arith);
      }

  first_opens : (x : ℕ) (l : List ℕ) → numbers_at image ≡ Ok (x ∷ l) → open_at (choice.Number x) image ≡ open_at choice.Latest image
  unfolding container_of chosen_of checkpoint_of numbered_of numbers_of
  first_opens x l e = sized (dec_le (length image) (2 ^ 34))
    where
      some_list : (a : List ℕ) → some_numbers a ≡ Ok (x ∷ l) → a ≡ x ∷ l
      some_list [] q = absurd (let z : ◌≡◌ {A = ℕ} 0 1 = cc in omega arith)
      some_list (y ∷ a) q = cc

      area : (g : Geometry) (a : Answer ℕ) → (a >>= λ s. some_numbers (descending (numbers_in g.reader image s g.ring g.ring 0))) ≡ Ok (x ∷ l)
          → (a >>= λ s. or_no_checkpoint (numbered_in g.reader image s g.ring x g.ring 0)) ≡ (a >>= λ s. or_corrupt (latest_in g.reader image s g.ring g.ring 0))
      area g (Ok s) q = let t = first_latest g.reader image s g.ring g.ring 0 x l (some_list _ q) in rw (t.1, t.2)
      area g (Err w) q = refl

      zero : (a : Answer Geometry) → (a >>= λ g. numbers_of image g) ≡ Ok (x ∷ l) → from 0 a (λ g. container_of (choice.Number x) image g) ≡ from 0 a (λ g. container_of choice.Latest image g)
      zero (Ok g) q = ap (λ (a : Answer Superblock). from 0 (a >>= supported) (λ s. mapped_of image g.reader s)) (area g (area_at (length image) g) q)
      zero (Err w) q = refl

      sized : Dec (length image ≤ 2 ^ 34) → open_at (choice.Number x) image ≡ open_at choice.Latest image
      sized (Dec.yes h) = open_within (choice.Number x) h ∙ (zero (geometry_at image) (sym (list_within h) ∙ e) ∙ sym (open_within choice.Latest h))
      sized (Dec.no h) = absurd (let q = sym (list_beyond (omega arith)) ∙ e in let z : ◌≡◌ {A = ℕ} 0 1 = cc in omega arith)

-- ---- the number that is looked up by
supported_is : (sb s : Superblock) → supported sb ≡ Ok s → sb ≡ s
unfolding supported
supported_is sb s e = got_is sb s (same_but (sb.incompat / 256 % 2) (same_but (sb.incompat % 2) e))
  where
    same_but : (n : ℕ) {x : Answer Superblock} → if_eq n 1 (Err Unsupported) x ≡ Ok s → x ≡ Ok s
    same_but n {x} = eq_cases (λ (a : Answer Superblock). a ≡ Ok s → x ≡ Ok s) (λ h q. absurd (let z : ◌≡◌ {A = ℕ} 0 1 = cc in omega arith)) (λ h q. q)

some_number : (a : Option Superblock) (sb : Superblock) → or_no_checkpoint a ≡ Ok sb → a ≡ Some sb
some_number (Some s) sb e = ap Some (got_is s sb e)
some_number None sb e = absurd (let z : ◌≡◌ {A = ℕ} 0 1 = cc in omega arith)

by_the_number : (image : List ℕ) (x : ℕ) (c : Container) → (open_at (choice.Number x) image).answer ≡ Ok c → (c.sb.xid ≡ x) × (c.map.xid ≡ x)
unfolding container_of chosen_of numbered_of mapped_of
by_the_number image x c e = sized (dec_le (length image) (2 ^ 34))
  where
    sized : Dec (length image ≤ 2 ^ 34) → (c.sb.xid ≡ x) × (c.map.xid ≡ x)
    sized (Dec.no h) = absurd (let q = sym (ap (λ (a : Counted Container). a.answer) (open_beyond image (choice.Number x) (omega arith))) ∙ e in let z : ◌≡◌ {A = ℕ} 0 1 = cc in omega arith)
    sized (Dec.yes h) =
        let o = sym (ap (λ (a : Counted Container). a.answer) (open_within image (choice.Number x) h)) ∙ e in
        let g = from_got 0 (geometry_at image) _ c o in
        let k = from_got 0 (checkpoint_by (choice.Number x) image g.0 >>= supported) _ c g.2 in
        let p = bound (checkpoint_by (choice.Number x) image g.0) supported k.0 k.1 in
        let t = bound (area_at (length image) g.0) _ p.0 p.1.0 in
        let n = numbered_of_lem g.0.reader image t.0 g.0.ring x g.0.ring 0 p.0 (some_number _ p.0 t.1.1) in
        let m = from_got _ (map_at g.0.reader image k.0.omap_oid k.0.xid 0).answer _ c k.2 in
        let q = got_is _ c m.2 in
        let sb : c.sb.xid ≡ x = ap (λ (y : Container). y.sb.xid) (sym q) ∙ (ap (λ (y : Superblock). y.xid) (sym (supported_is p.0 k.0 p.1.1)) ∙ n.number) in
        let same : k.0.xid ≡ c.sb.xid = ap (λ (y : Container). y.sb.xid) q in
        let map : c.map.xid ≡ m.0.xid = ap (λ (y : Container). y.map.xid) (sym q) in
        (sb, map ∙ (sym (map_number g.0.reader image k.0.omap_oid k.0.xid 0 m.0 m.1) ∙ (same ∙ sb)))

module _ (image : List ℕ) (h : length image ≤ 2 ^ 34) (g : Geometry) (start : ℕ) (p : geometry_at image ≡ Ok g) (a : area_at (length image) g ≡ Ok start) (q : start ≡ g.base * size image g) where
  numbers_there : numbers_at image ≡ some_numbers (descending (numbers_in g.reader image (g.base * size image g) g.ring g.ring 0))
  unfolding numbers_of
  numbers_there = list_within image h ∙ rw (p, a, q)

  opening_there : (x : ℕ) → open_at (choice.Number x) image ≡ from 0 (or_no_checkpoint (numbered_in g.reader image (g.base * size image g) g.ring x g.ring 0) >>= supported) (λ s. mapped_of image g.reader s)
  unfolding container_of chosen_of numbered_of
  opening_there x = open_within image (choice.Number x) h ∙ rw (p, a, q)

pub numbered_checkpoints : NumberedCheckpoints
numbered_checkpoints = record {
  listing = λ image h r.
      let z = zero_read image r.0 r.2 in
      let s = area_got (length image) r.0 r.1 r.3 in
      rw z.fields (lists image r.0 z.sized.taken.0 s.area (numbers_there image h r.0 r.1 r.2 r.3 s.product));
  opening = λ image h r x.
      let z = zero_read image r.0 r.2 in
      let s = area_got (length image) r.0 r.1 r.3 in
      rw z.fields (opens_by image r.0 z.sized.taken.0 s.area x (opening_there image h r.0 r.1 r.2 r.3 s.product x));
  first = first_opens;
  refused = refused_alike;
  lookups = by_the_number;
}
