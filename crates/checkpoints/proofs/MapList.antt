-- A list of maps that fits, map by map; and what the tests of one map say.
use Prim.Native.Nat.{ℕ, zero, suc, ◌+◌, ◌*◌, ◌%◌, ◌≤◌, ◌<◌}
use mathlib.Core.Path.{◌≡◌, refl, sym, ◌∙◌}
use mathlib.Core.Bool.{Bool, true, false}
use mathlib.Core.List.{List}
use lib.Dec.{eqb}
use lib.ListN.{length}
use native.Mathlib.Nat.{add-zero, zero-add}
use native.Mathlib.Omega.{arith}
use Rattle.std.specs.Prelude.{Option, None, Some}
use Rattle.error.specs.Answer.{Ok, pick, if_eq}
use Rattle.error.proofs.Laws.{le_cases}
use Rattle.byte_fields.specs.Number.{number_at}
use Rattle.byte_fields.specs.Part.{part_of}
use Rattle.byte_fields.specs.declared.Span.{Span}
use Rattle.arith.specs.Checked.{sum_of}
use Rattle.obj.specs.Block.{object_at}
use Rattle.obj.specs.Header.{header_at, kind_of}
use Rattle.obj.specs.declared.header.ObjHeader.{ObjHeader}
use Rattle.obj.specs.declared.reader.Reader.{Reader}
use Rattle.checkpoints.specs.Maps.{entries_held, entries_in, checkpoint_map_in, checkpoint_map_at, goes_on, maps_from}
use Rattle.checkpoints.specs.declared.superblock.Descriptors.{Descriptors}
use Rattle.checkpoints.proofs.Asked.{nothing, same_some, known_bound, passed}

flag_of_lem : (a b : ℕ) (l : Bool) → if_eq a b (Some true) (Some false) ≡ Some l → l ≡ if_eq a b true false
unfolding if_eq
flag_of_lem a b l = of (eqb a b)
  where
    of : (d : Bool) → pick d (Some true) (Some false) ≡ Some l → l ≡ pick d true false
    of true e = cc
    of false e = cc

module _ (b : List ℕ) (last : Bool) where
  pub entries_facts : entries_in b ≡ Some last →
      (flags : ℕ) × (count : ℕ) × (number_at 4 b 32 ≡ Ok flags) × (number_at 4 b 36 ≡ Ok count) × (40 + 40 * count ≤ length b) × (last ≡ if_eq (flags % 2) 1 true false)
  unfolding entries_in entries_held
  entries_facts e =
      let f = known_bound (number_at 4 b 32) _ last e in
      let c = known_bound (number_at 4 b 36) _ last f.1.1 in
      let t : (40 + 40 * c.0 ≤ length b) × (last ≡ if_eq (f.0 % 2) 1 true false) =
      le_cases (λ (a : Option Bool). a ≡ Some last → (40 + 40 * c.0 ≤ length b) × (last ≡ if_eq (f.0 % 2) 1 true false))
      (λ h q. (h, flag_of_lem (f.0 % 2) 1 last q)) (λ h q. nothing q) c.1.1 in
      (f.0, c.0, f.1.0, c.1.0, t.0, t.1)

  pub map_in_facts : (xid : ℕ) → checkpoint_map_in b xid ≡ Some last → (h : ObjHeader) × (header_at b ≡ Ok h) × (kind_of h ≡ 0x0c) × (h.xid ≡ xid) × (entries_in b ≡ Some last)
  unfolding checkpoint_map_in
  map_in_facts xid e =
      let h = known_bound (header_at b) _ last e in
      let k = passed (kind_of h.0) 0x0c _ last h.1.1 in
      let x = passed h.0.xid xid _ last k.1 in
      (h.0, h.1.0, k.0, x.0, x.1)

module _ (r : Reader) (image : List ℕ) (d : Descriptors) (xid ring : ℕ) where
  pub map_facts : (k : ℕ) (last : Bool) → checkpoint_map_at r image d xid ring k ≡ Some last →
      (p : ℕ) × (s : Span) × (sum_of d.base ((d.index + k) % ring) ≡ Ok p) × (object_at r image p ≡ Ok s) × (checkpoint_map_in (part_of image s) xid ≡ Some last)
  unfolding checkpoint_map_at
  map_facts k last e =
      let p = known_bound (sum_of d.base ((d.index + k) % ring)) _ last e in
      let s = known_bound (object_at r image p.0) _ last p.1.1 in
      (p.0, s.0, p.1.0, s.1.0, s.1.1)

  -- none of i maps from the k-th on is marked as the last
  Unmarked : ℕ → ℕ → Type 0
  Unmarked k i = (j : ℕ) → j < i → checkpoint_map_at r image d xid ring (k + j) ≡ Some true → ⊥

  -- each of n maps from the k-th on is one, up to one that is marked as the last
  Each : ℕ → ℕ → Type 0
  Each n k = (i : ℕ) → i < n → Unmarked k i → (last : Bool) × (checkpoint_map_at r image d xid ring (k + i) ≡ Some last)

  module _ (n k : ℕ) where
    unmarked_after : (i : ℕ) → Unmarked k (suc i) → Unmarked (k + 1) i
    unfolding Unmarked
    unmarked_after i u j h e = let q : k + suc j ≡ k + 1 + j = omega arith in u (suc j) (omega arith) (rw q e)

    unmarked_before : (i : ℕ) → checkpoint_map_at r image d xid ring k ≡ Some false → Unmarked (k + 1) i → Unmarked k (suc i)
    unfolding Unmarked
    unmarked_before i p u zero h e = let q = same_some (sym p ∙ (rw add-zero at e)) in let z : ◌≡◌ {A = ℕ} 0 1 = cc in omega arith
    unmarked_before i p u (suc j) h e = let q : k + suc j ≡ k + 1 + j = omega arith in u j (omega arith) (rw q at e)

    each_after : (a : Option Bool) → checkpoint_map_at r image d xid ring k ≡ a → (maps_from r image d xid ring n (k + 1) ≡ true → Each n (k + 1)) →
        goes_on a (maps_from r image d xid ring n (k + 1)) ≡ true → Each (suc n) k
    unfolding Each Unmarked
    each_after (Some last) p f t zero h u = (last, rw add-zero p)
    each_after (Some true) p f t (suc i) h u = absurd (u 0 (omega arith) (rw add-zero p))
    each_after (Some false) p f t (suc i) h u = let q : k + suc i ≡ k + 1 + i = omega arith in rw q (f t i (omega arith) (unmarked_after i u))
    each_after None p f t i h u = absurd (let z : ◌≡◌ {A = ℕ} 0 1 = cc in omega arith)

    each_before : (Each n (k + 1) → maps_from r image d xid ring n (k + 1) ≡ true) → Each (suc n) k → goes_on (checkpoint_map_at r image d xid ring k) (maps_from r image d xid ring n (k + 1)) ≡ true
    unfolding Each Unmarked
    each_before f u = let m = u 0 (omega arith) (λ j h. absurd (omega arith)) in of m.0 (rw add-zero at m.1)
      where
        of : (last : Bool) → checkpoint_map_at r image d xid ring k ≡ Some last → goes_on (checkpoint_map_at r image d xid ring k) (maps_from r image d xid ring n (k + 1)) ≡ true
        of true p = rw p
        of false p = rw p (f (λ i h v. let q : k + 1 + i ≡ k + suc i = omega arith in rw q (u (suc i) (omega arith) (unmarked_before i p v))))

  fits_each : (n k : ℕ) → maps_from r image d xid ring n k ≡ true → Each n k
  unfolding maps_from Each
  fits_each zero k e = λ i h. absurd (omega arith)
  fits_each (suc n) k e = each_after n k (checkpoint_map_at r image d xid ring k) refl (fits_each n (k + 1)) e

  each_fits : (n k : ℕ) → Each n k → maps_from r image d xid ring n k ≡ true
  unfolding maps_from
  each_fits zero k f = refl
  each_fits (suc n) k f = each_before n k (each_fits n (k + 1)) f

  pub each_of : (n : ℕ) → maps_from r image d xid ring n 0 ≡ true → (k : ℕ) → k < n → ((j : ℕ) → j < k → checkpoint_map_at r image d xid ring j ≡ Some true → ⊥) → (last : Bool) × (checkpoint_map_at r image d xid ring k ≡ Some last)
  unfolding Each Unmarked
  each_of n e k h u = rw zero-add at (fits_each n 0 e k h (λ j t p. u j t (rw zero-add at p)))

  pub of_each : (n : ℕ) → ((k : ℕ) → k < n → ((j : ℕ) → j < k → checkpoint_map_at r image d xid ring j ≡ Some true → ⊥) → (last : Bool) × (checkpoint_map_at r image d xid ring k ≡ Some last)) → maps_from r image d xid ring n 0 ≡ true
  unfolding Each Unmarked
  of_each n f = each_fits n 0 (λ k h u. rw zero-add (f k h (λ j t p. u j t (rw zero-add p))))
