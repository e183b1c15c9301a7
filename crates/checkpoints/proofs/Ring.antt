-- A map list longer than the ring costs no more than the ring: after a whole round the same blocks come again.
use Prim.Native.Nat.{ℕ, zero, suc, ◌+◌, ◌-◌, ◌%◌, ◌≤◌, ◌<◌, min}
use mathlib.Core.Path.{◌≡◌, refl, sym, ◌∙◌}
use mathlib.Core.Bool.{Bool, true, false}
use mathlib.Core.Logic.{◌⊎◌, inl, inr, ⊎_elim}
use mathlib.Core.List.{List}
use Rattle.std.specs.Prelude.{Option, None, Some}
use native.Mathlib.Nat.{add-mod-mod, mod-lt, add-zero, suc-add, sub-zero, zero-add}
use native.Mathlib.Decide.{dec_le}
use native.Mathlib.Omega.{arith}
use borrow.Author.Rules.{rules}
use Rattle.error.proofs.Laws.{same, other}
use Rattle.obj.specs.declared.reader.Reader.{Reader}
use Rattle.checkpoints.specs.Maps.{checkpoint_map_at, goes_on, maps_from, maps_fit}
use Rattle.checkpoints.specs.declared.superblock.Descriptors.{Descriptors}

module _ (r : Reader) (image : List ℕ) (d : Descriptors) (xid ring : ℕ) where
  maps : ℕ → ℕ → Bool
  maps n k = maps_from r image d xid ring n k

  -- a map's answer goes by its place on the ring
  around : (k : ℕ) → checkpoint_map_at r image d xid ring k ≡ checkpoint_map_at r image d xid ring (k % ring)
  unfolding checkpoint_map_at
  around k = rw (← add-mod-mod d.index k ring)

  -- n maps from the k-th on, each with others after it
  More : ℕ → ℕ → Type 0
  More n k = (i : ℕ) → i < n → checkpoint_map_at r image d xid ring (k + i) ≡ Some false

  first_too : (n k : ℕ) → checkpoint_map_at r image d xid ring k ≡ Some false → More n (k + 1) → More (suc n) k
  unfolding More
  first_too n k e h zero t = rw (add-zero) e
  first_too n k e h (suc i) t = let q : k + suc i ≡ k + 1 + i = omega arith in rw q (h i (omega arith))

  one : (n k : ℕ) → maps (suc n) k ≡ goes_on (checkpoint_map_at r image d xid ring k) (maps n (k + 1))
  unfolding maps maps_from
  one n k = refl

  after : (a : Option Bool) (x y : Bool) → (a ≡ Some false → x ≡ y) → goes_on a x ≡ goes_on a y
  after (Some true) x y h = refl
  after (Some false) x y h = h refl
  after None x y h = refl

  longer : (n j k : ℕ) → (checkpoint_map_at r image d xid ring k ≡ Some false → maps (n + j) (k + 1) ≡ maps n (k + 1)) → maps (suc n + j) k ≡ maps (suc n) k
  longer n j k h = rw suc-add (one (n + j) k ∙ (after (checkpoint_map_at r image d xid ring k) _ _ h ∙ sym (one n k)))

  -- either all of n maps have others after them, or what comes after them does not count
  decided : (n k : ℕ) → More n k ⊎ ((j : ℕ) → maps (n + j) k ≡ maps n k)
  unfolding More
  decided zero k = inl (λ i t. absurd (omega arith))
  decided (suc n) k = of (checkpoint_map_at r image d xid ring k) refl (decided n (k + 1))
    where
      of : (a : Option Bool) → checkpoint_map_at r image d xid ring k ≡ a →
          (More n (k + 1) ⊎ ((j : ℕ) → maps (n + j) (k + 1) ≡ maps n (k + 1))) →
          More (suc n) k ⊎ ((j : ℕ) → maps (suc n + j) k ≡ maps (suc n) k)
      of (Some true) e h = inr (λ j. longer n j k (λ q. absurd (let z : ◌≡◌ {A = ℕ} 0 1 = cc in omega arith)))
      of (Some false) e h = ⊎_elim (λ m. inl (first_too n k e m)) (λ f. inr (λ j. longer n j k (λ q. f j))) h
      of None e h = inr (λ j. longer n j k (λ q. absurd (let z : ◌≡◌ {A = ℕ} 0 1 = cc in omega arith)))

  -- where every map has others after it, any number of them is accepted
  endless : ((k : ℕ) → checkpoint_map_at r image d xid ring k ≡ Some false) → (n k : ℕ) → maps n k ≡ true
  unfolding maps maps_from
  endless f zero k = refl
  endless f (suc n) k = rw (f k) (endless f n (k + 1))

  module _ (positive : 0 < ring) where
    round : (n : ℕ) → ring ≤ n → maps n 0 ≡ maps ring 0
    unfolding More
    round n h =
        ⊎_elim
        (λ m.
        let f : (k : ℕ) → checkpoint_map_at r image d xid ring k ≡ Some false = λ k. rw (around k, ← zero-add (k % ring)) (m (k % ring) (mod-lt k positive)) in
        endless f n 0 ∙ sym (endless f ring 0))
        (λ g. let q : n ≡ ring + (n - ring) = omega arith in rw q (g (n - ring)))
        (decided ring 0)

    -- testing no more than the ring's blocks is enough
    pub enough : (n : ℕ) → n ≡ min (d.len - 1) ring → maps_from r image d xid ring n 0 ≡ maps_fit r image d xid ring
    unfolding maps_fit maps
    enough n e = of (dec_le ring (d.len - 1))
      where
        whole : maps_from r image d xid ring (d.len - 1) 0 ≡ maps_fit r image d xid ring
        whole = other _ _ _ _ _ (λ z. omega arith) refl

        of : Dec (ring ≤ d.len - 1) → maps_from r image d xid ring n 0 ≡ maps_fit r image d xid ring
        of (Dec.yes h) = let q : n ≡ ring = omega arith in rw q (sym (round (d.len - 1) h) ∙ whole)
        of (Dec.no h) = let q : n ≡ d.len - 1 = omega arith in rw q whole

  pub no_ring : ring ≡ 0 → true ≡ maps_fit r image d xid ring
  unfolding maps_fit
  no_ring h = same _ _ _ _ _ h refl

  -- a turn of the loop
  module _ (n k : ℕ) (whole : Bool) (p : maps_from r image d xid ring (n - k) k ≡ whole) where
    pub maps_done : n ≤ k → true ≡ whole
    unfolding maps_from
    maps_done h = let q : n - k ≡ 0 = omega arith in rw q at p

    module _ (h : k < n) (x : Option Bool) (e : x ≡ checkpoint_map_at r image d xid ring k) where
      turn : goes_on x (maps_from r image d xid ring (n - (k + 1)) (k + 1)) ≡ whole
      unfolding maps_from
      turn = let q : n - k ≡ suc (n - (k + 1)) = omega arith in rw e (rw q at p)

      pub maps_last : (l : Bool) → x ≡ Some l → l ≡ true → true ≡ whole
      maps_last l q b = rw (q, b) at turn

      pub maps_more : (l : Bool) → x ≡ Some l → l ≡ false → maps_from r image d xid ring (n - (k + 1)) (k + 1) ≡ whole
      maps_more l q b = rw (q, b) at turn

      pub maps_no : x ≡ None → false ≡ whole
      maps_no q = rw q at turn

pub maps_start : (r : Reader) (image : List ℕ) (d : Descriptors) (xid ring n : ℕ) → (ring ≡ 0 → ⊥) → n ≡ min (d.len - 1) ring → maps_from r image d xid ring (n - 0) 0 ≡ maps_fit r image d xid ring
maps_start r image d xid ring n h e = rw sub-zero (enough r image d xid ring (omega arith) n e)

pub ruleset rings = (rules, no_ring, maps_start, maps_done, maps_last, maps_more, maps_no)
