-- A block is taken for a checkpoint map exactly if it is one; and a candidate's maps are accepted exactly if each is one, up to one with the last flag.
use Prim.Native.Nat.{ℕ, zero, suc, ◌+◌, ◌*◌, ◌%◌, ◌^◌, ◌≤◌, ◌<◌}
use mathlib.Core.Path.{◌≡◌, refl, sym, ap, ◌∙◌}
use mathlib.Core.Bool.{Bool, true, false}
use mathlib.Core.List.{List}
use Rattle.std.specs.Prelude.{Option, Some}
use lib.Dec.{eqb}
use lib.ListN.{length}
use native.Mathlib.Decide.{ℕ_discrete}
use native.Mathlib.Omega.{arith}
use Rattle.error.specs.Answer.{Ok, pick, if_eq}
use Rattle.error.proofs.Laws.{eq_cases, at_most_lem, same}
use Rattle.byte_fields.specs.Number.{little}
use Rattle.byte_fields.proofs.Laws.{part_length}
use Rattle.arith.specs.Checked.{sum_of}
use Rattle.obj.specs.Block.{object_at}
use Rattle.obj.specs.Header.{kind_of}
use Rattle.obj.specs.declared.header.ObjHeader.{ObjHeader}
use Rattle.geometry.specs.declared.Geometry.{Geometry}
use Rattle.checkpoints.specs.Maps.{entries_held, entries_in, checkpoint_map_in, checkpoint_map_at, maps_from}
use Rattle.checkpoints.proofs.MapList.{entries_facts, map_in_facts, map_facts, each_of, of_each}
use Rattle.nx.specs.LatestCheckpoint.{size, place_of, block, xid_of, map_address, map_block, superblock_of, Last, CheckpointMap}
use Rattle.nx.proofs.BlockZero.{same_inside, number_read, number_got, fitting_got}
use Rattle.nx.proofs.Objects.{header_of, header_read, object_read, object_if}

-- whether a map's flags mark it as the last
abbrev flag_of : List ℕ → Bool
flag_of b = if_eq (little 4 b 32 % 2) 1 true false

flag_inside : (m n : ℕ) → Some (if_eq m n true false) ≡ if_eq m n (Some true) (Some false)
unfolding if_eq
flag_inside m n = of (eqb m n)
  where
    of : (d : Bool) → Some (pick d true false) ≡ pick d (Some true) (Some false)
    of true = refl
    of false = refl

flag_set : (m n : ℕ) → true ≡ if_eq m n true false → m ≡ n
flag_set m n = eq_cases (λ (d : Bool). true ≡ d → m ≡ n) (λ h e. h) (λ h e. absurd (let z : ◌≡◌ {A = ℕ} 0 1 = cc in omega arith))

-- ---- the tests of a map's bytes
module _ (b : List ℕ) (xid : ℕ) (long : 40 ≤ length b) where
  in_means : (last : Bool) → checkpoint_map_in b xid ≡ Some last →
      (little 4 b 24 % 2 ^ 16 ≡ 0x0c) × (little 8 b 16 ≡ xid) × (40 + 40 * little 4 b 36 ≤ length b) × (last ≡ flag_of b)
  in_means last e =
      let m = map_in_facts b last xid e in
      let c = entries_facts b last m.4 in
      let q : header_of b ≡ m.0 = same_inside (sym (header_read b (omega arith)) ∙ m.1) in
      let f = (number_got 4 b 32 c.0 c.2).1 in
      let n = (number_got 4 b 36 c.1 c.3).1 in
      (ap (λ (h : ObjHeader). kind_of h) q ∙ m.2, ap (λ (h : ObjHeader). h.xid) q ∙ m.3, rw n at c.4, rw f at c.5)

  in_if : little 4 b 24 % 2 ^ 16 ≡ 0x0c → little 8 b 16 ≡ xid → 40 + 40 * little 4 b 36 ≤ length b → checkpoint_map_in b xid ≡ Some (flag_of b)
  unfolding checkpoint_map_in entries_in entries_held
  in_if k x h =
      rw (header_read b (omega arith), number_read 4 b 32 (omega arith), number_read 4 b 36 (omega arith))
      (sym (same _ _ _ _ _ k (same _ _ _ _ _ x (at_most_lem _ _ _ _ _ h (flag_inside (little 4 b 32 % 2) 1)))))

-- ---- the maps of the i-th block
module _ (image : List ℕ) (g : Geometry) (i : ℕ) (big : 4096 ≤ g.reader.block_size) where
  abbrev map : ℕ → Option Bool
  map k = checkpoint_map_at g.reader image (superblock_of image g i).descriptors (xid_of image g i) g.ring k

  whole : (p : ℕ) → p * size image g + size image g ≤ length image → length (block image g p) ≡ size image g
  whole p h = part_length image (place_of image g p) h

  pub map_means : (k : ℕ) (last : Bool) → map k ≡ Some last → CheckpointMap image g i k × (last ≡ flag_of (map_block image g i k))
  unfolding sum_of
  map_means k last e =
      let m = map_facts g.reader image _ _ g.ring k last e in
      let a = fitting_got (map_address image g i k) m.0 m.2 in
      let o = object_read g.reader image (map_address image g i k) m.1 (rw a.1 at m.3) in
      let n = whole (map_address image g i k) o.1.in_image in
      let t = in_means (map_block image g i k) (xid_of image g i) (omega arith) last (rw o.1.place at m.4) in (
        record {
          not_first = o.1.not_first;
          counted = o.1.counted;
          sum_fits = a.0;
          product_fits = o.1.fits;
          in_image = o.1.in_image;
          intact = o.0;
          kind = t.0;
          same_xid = t.1;
          holds = omega (arith, t.2);
        },
        t.3,
      )

  pub map_if : (k : ℕ) → CheckpointMap image g i k → map k ≡ Some (flag_of (map_block image g i k))
  unfolding checkpoint_map_at sum_of
  map_if k c =
      let p = map_address image g i k in
      let n = whole p c.in_image in
      let s : sum_of (superblock_of image g i).descriptors.base (((superblock_of image g i).descriptors.index + k) % g.ring) ≡ Ok p = sym (at_most_lem _ _ _ _ _ c.sum_fits refl) in
      let o : object_at g.reader image p ≡ Ok (place_of image g p) = object_if g.reader image p c.not_first c.counted c.product_fits c.in_image c.intact in
      rw (s, o) (in_if (map_block image g i k) (xid_of image g i) (omega arith) c.kind c.same_xid (omega (arith, c.holds)))

  -- each of the first n is a map, up to one with the last flag
  abbrev pub EachMap : ℕ → Type 0
  EachMap n = (k : ℕ) → k < n → ((j : ℕ) → j < k → Last image g i j → ⊥) → CheckpointMap image g i k

  abbrev maps : ℕ → Bool
  maps n = maps_from g.reader image (superblock_of image g i).descriptors (xid_of image g i) g.ring n 0

  pub maps_mean : (n : ℕ) → maps n ≡ true → EachMap n
  maps_mean n e k h u =
      let m = each_of g.reader image _ _ g.ring n e k h (λ j t p. u j t (flag_set (little 4 (map_block image g i j) 32 % 2) 1 (map_means j true p).1)) in
      (map_means k m.0 m.1).0

  module _ (n : ℕ) (f : EachMap n) (k : ℕ) (h : k < n) (u : (j : ℕ) → j < k → map j ≡ Some true → ⊥) where
    -- no map before the k-th has the last flag
    unflagged : (m : ℕ) → m ≤ k → (j : ℕ) → j < m → Last image g i j → ⊥
    unflagged zero t j w l = omega arith
    unflagged (suc m) t j w l = of (unflagged m (omega arith)) (ℕ_discrete j m)
      where
        of : ((o : ℕ) → o < m → Last image g i o → ⊥) → Dec (j ≡ m) → ⊥
        of r (Dec.yes q) = let v : Last image g i m = rw q at l in u m (omega arith) (map_if m (f m (omega arith) r) ∙ ap Some (sym (same _ _ _ _ _ v refl)))
        of r (Dec.no q) = r j (omega arith) l

    is_map : CheckpointMap image g i k
    is_map = f k h (unflagged k (omega arith))

  pub maps_if : (n : ℕ) → EachMap n → maps n ≡ true
  maps_if n f = of_each g.reader image _ _ g.ring n (λ k h u. (flag_of (map_block image g i k), map_if k (is_map n f k h u)))
