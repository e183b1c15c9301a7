-- The turns of the loops over a ring, backwards: what was counted and stored is that of the blocks from i on.
use Prim.Native.Nat.{ℕ, zero, suc, ◌+◌, ◌-◌, ◌*◌, ◌^◌, ◌≤◌, ◌<◌}
use mathlib.Core.Path.{◌≡◌, sym, ap, ◌∙◌}
use mathlib.Core.List.{List, [], ◌∷◌, ◌++◌}
use Rattle.std.specs.Prelude.{Option}
use mir.Syntax.{w64}
use mir.Val.{Fits}
use native.Mathlib.Nat.{sub-zero}
use native.Mathlib.Omega.{arith}
use lib.ListN.{length, drop}
use lib.Seq.{sets, drop-drop, drop_at}
use Rattle.obj.specs.declared.reader.Reader.{Reader}
use Rattle.checkpoints.specs.Checkpoint.{accepted_at, block_place}
use Rattle.checkpoints.specs.Numbers.{kept, numbers_in, insert, descending}
use Rattle.checkpoints.specs.declared.superblock.Superblock.{Superblock}
use Rattle.xid_list.specs.Listed.{bytes_of}
use Rattle.xid_list.specs.Inner.{held_in}
use Rattle.xid_list.proofs.Held.{bytes_length, descending_length, insert_bytes}
use Rattle.std.specs.Prelude.{None, Some}

module _ (r : Reader) (image : List ℕ) (start ring : ℕ) where
  abbrev pub numbers_from : ℕ → List ℕ
  numbers_from i = numbers_in r image start ring (ring - i) i

  fewer : (n k : ℕ) → length (numbers_in r image start ring n k) ≤ n
  unfolding numbers_in
  fewer zero k = omega arith
  fewer (suc n) k = of (accepted_at r image ring (block_place r start k)) (fewer n (k + 1))
    where
      of : (a : Option Superblock) → length (numbers_in r image start ring n (k + 1)) ≤ n → length (kept a (numbers_in r image start ring n (k + 1))) ≤ suc n
      of (Some sb) h = omega arith
      of None h = omega arith

  pub most : length (numbers_in r image start ring ring 0) ≤ ring
  most = fewer ring 0

  pub nothing_from : numbers_from ring ≡ []
  unfolding numbers_in
  nothing_from = let q : ring - ring ≡ 0 = omega arith in rw q

  pub one_from : (i : ℕ) → 0 < i → i ≤ ring → numbers_from (i - 1) ≡ kept (accepted_at r image ring (block_place r start (i - 1))) (numbers_from i)
  unfolding numbers_in
  one_from i h k =
      let q : ring - (i - 1) ≡ suc (ring - i) = omega arith in
      let t : i - 1 + 1 ≡ i = omega arith in
      rw (q, t)

  -- the numbers from a place on are no more than all
  pub part_of_all : (i : ℕ) → i ≤ ring → length (numbers_from i) ≤ length (numbers_in r image start ring ring 0)
  part_of_all zero h = rw sub-zero (omega arith)
  part_of_all (suc i) h =
      let p = part_of_all i (omega arith) in
      let e : numbers_from i ≡ kept (accepted_at r image ring (block_place r start i)) (numbers_from (suc i)) = (let q : suc i - 1 ≡ i = omega arith in rw q at (one_from (suc i) (omega arith) h)) in
      of (accepted_at r image ring (block_place r start i)) (rw e at p)
    where
      of : (a : Option Superblock) → length (kept a (numbers_from (suc i))) ≤ length (numbers_in r image start ring ring 0) → length (numbers_from (suc i)) ≤ length (numbers_in r image start ring ring 0)
      of (Some sb) q = omega arith
      of None q = q

  -- ---- counting
  module _ (i n : ℕ) (h : 0 < i) (k : i ≤ ring) (p : n ≡ length (numbers_from i)) (x : Option Superblock) (e : x ≡ accepted_at r image ring (block_place r start (i - 1))) where
    here : numbers_from (i - 1) ≡ kept x (numbers_from i)
    here = one_from i h k ∙ ap (λ (a : Option Superblock). kept a (numbers_from i)) (sym e)

    pub count_one : (sb : Superblock) → x ≡ Some sb → n + 1 ≡ length (numbers_from (i - 1))
    count_one sb q = rw (here, q) (omega arith)

    pub count_none : x ≡ None → n ≡ length (numbers_from (i - 1))
    count_none q = rw (here, q) p

  pub count_fits : (i n : ℕ) → 0 < i → i ≤ ring → ring < 2 ^ 32 → n ≡ length (numbers_from i) → Fits w64 (n + 1)
  count_fits i n h k s p = record { fits = omega (arith, fewer (ring - i) i) }

  pub count_start : 0 ≡ length (numbers_from ring)
  count_start = rw nothing_from

  pub count_done : (i n : ℕ) → i ≤ 0 → n ≡ length (numbers_from i) → n ≡ length (numbers_in r image start ring ring 0)
  count_done i n h p = let q : i ≡ 0 = omega arith in rw (q, sub-zero) at p

  -- ---- storing: b₀ is the buffer as it was lent
  pub record Stored (b₀ : List ℕ) (i n : ℕ) (b : List ℕ) : Type 0 where
    pub count : n ≡ length (numbers_from i)
    pub bytes : b ≡ bytes_of (descending (numbers_from i)) ++ drop (8 * n) b₀
    pub held : held_in b 0 n ≡ descending (numbers_from i)

  pub stored_start : (b₀ : List ℕ) → Stored b₀ ring 0 b₀
  unfolding descending bytes_of held_in
  stored_start b₀ = record { count = count_start; bytes = rw nothing_from; held = rw nothing_from }

  module _ (b₀ : List ℕ) (i n : ℕ) (b : List ℕ) (h : 0 < i) (k : i ≤ ring) (s : Stored b₀ i n b) (x : Option Superblock) (e : x ≡ accepted_at r image ring (block_place r start (i - 1))) where
    pub stored_none : x ≡ None → Stored b₀ (i - 1) n b
    stored_none q =
        let w : numbers_from (i - 1) ≡ numbers_from i = here i n h k s.count x e ∙ (rw q) in
        record { count = rw w s.count; bytes = rw w s.bytes; held = rw w s.held }

    module _ (sb : Superblock) (q : x ≡ Some sb) where
      more : numbers_from (i - 1) ≡ sb.xid ∷ numbers_from i
      more = here i n h k s.count x e ∙ (rw q)

      pub stored_room : 8 * length (numbers_in r image start ring ring 0) ≤ length b → 8 * n + 8 ≤ length b
      stored_room u = let c = count_one i n h k s.count x e sb q in omega (arith, part_of_all (i - 1) (omega arith))

      pub stored_one : (c : List ℕ) → 8 * n + 8 ≤ length b → c ≡ sets b 0 (bytes_of (insert sb.xid (held_in b 0 n))) → held_in c 0 (n + 1) ≡ insert sb.xid (held_in b 0 n)
          → Stored b₀ (i - 1) (n + 1) c
      unfolding descending
      stored_one c u v w =
          let d = descending (numbers_from i) in
          let len : length (bytes_of d) ≡ 8 * n = bytes_length d ∙ (rw (descending_length (numbers_from i), ← s.count)) in
          let rest : drop (8 * n + 8) b ≡ drop (8 * n + 8) b₀
          = sym (drop-drop 8 (8 * n) b) ∙ (ap (drop 8) (ap (drop (8 * n)) s.bytes ∙ drop_at (bytes_of d) (drop (8 * n) b₀) (8 * n) len) ∙ drop-drop 8 (8 * n) b₀) in
          let now : c ≡ bytes_of (insert sb.xid d) ++ drop (8 * n + 8) b₀ = rw (s.held, rest) at (insert_bytes b n sb.xid u c v) in
          let t : 8 * (n + 1) ≡ 8 * n + 8 = omega arith in
          record {
            count = count_one i n h k s.count x e sb q;
            bytes = rw (more, t) now;
            held = rw more (rw s.held at w);
          }

  module _ (b₀ : List ℕ) (i n : ℕ) (b : List ℕ) (s : Stored b₀ i n b) where
    pub stored_fits : 0 < i → i ≤ ring → ring < 2 ^ 32 → Fits w64 (n + 1)
    stored_fits h k t = count_fits i n h k t s.count

    pub stored_count : i ≤ 0 → n ≡ length (numbers_in r image start ring ring 0)
    stored_count h = count_done i n h s.count

    pub stored_bytes : i ≤ 0 → b ≡ bytes_of (descending (numbers_in r image start ring ring 0)) ++ drop (8 * n) b₀
    stored_bytes h = let q : i ≡ 0 = omega arith in rw (q, sub-zero) at s.bytes
