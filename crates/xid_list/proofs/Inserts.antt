-- The turns of an insertion: what is still to be stored, of the number that is carried and those that follow, makes the whole.
use Prim.Native.Nat.{ℕ, suc, ◌+◌, ◌-◌, ◌*◌, ◌≤◌, ◌<◌, max, min}
use mathlib.Core.Path.{◌≡◌, sym, ap, ◌∙◌}
use mathlib.Core.List.{List, [], ◌∷◌, ◌++◌, append-nil}
use mir.Syntax.{w8}
use mir.Val.{Fits}
use native.Mathlib.Nat.{sub-zero}
use native.Mathlib.Omega.{arith}
use lib.ListN.{get_or}
use lib.Seq.{sets}
use Rattle.byte_fields.specs.Number.{little, little_bytes}
use Rattle.byte_fields.proofs.Little.{little_length, sets_after, sets_append, stored}
use Rattle.checkpoints.specs.Numbers.{insert}
use Rattle.xid_list.specs.Listed.{bytes_of}
use Rattle.xid_list.specs.Inner.{held_in}
use Rattle.xid_list.proofs.Held.{held_same}

-- what storing a number before others comes to
first_stored : (b : List ℕ) (at x : ℕ) (l : List ℕ) → sets b at (bytes_of (x ∷ l)) ≡ sets (sets b at (little_bytes 8 x)) (at + 8) (bytes_of l)
unfolding bytes_of
first_stored b at x l = sets_append (little_bytes 8 x) (bytes_of l) b at ∙ ap (λ (n : ℕ). sets (sets b at (little_bytes 8 x)) (at + n) (bytes_of l)) (little_length 8 x)

held_on : (b : List ℕ) (at x n : ℕ) → held_in (sets b at (little_bytes 8 x)) (at + 8) n ≡ held_in b (at + 8) n
held_on b at x n = held_same n (sets b at (little_bytes 8 x)) b (at + 8) (λ i h. sets_after (little_bytes 8 x) b at i (rw (little_length 8 x) h))

pub insert_start : (b : List ℕ) (n x : ℕ) → sets b (8 * 0) (bytes_of (insert x (held_in b (8 * 0) (n - 0)))) ≡ sets b 0 (bytes_of (insert x (held_in b 0 n)))
insert_start b n x = rw sub-zero

module _ (whole b : List ℕ) (n x j : ℕ) (p : sets b (8 * j) (bytes_of (insert x (held_in b (8 * j) (n - j)))) ≡ whole) where
  pub insert_done : j ≤ n → n ≤ j → (c : List ℕ) → c ≡ sets b (8 * n) (little_bytes 8 x) → c ≡ whole
  unfolding held_in insert bytes_of
  insert_done h k c e =
      let q : n - j ≡ 0 = omega arith in
      let t : j ≡ n = omega arith in
      let w : sets b (8 * j) (little_bytes 8 x ++ []) ≡ whole = rw q at p in
      e ∙ (rw (append-nil, t) at w)

  pub insert_turn : j < n → (y : ℕ) (c : List ℕ) → y ≡ min x (little 8 b (8 * j)) → c ≡ sets b (8 * j) (little_bytes 8 (max x (little 8 b (8 * j))))
      → sets c (8 * (j + 1)) (bytes_of (insert y (held_in c (8 * (j + 1)) (n - (j + 1))))) ≡ whole
  unfolding held_in insert
  insert_turn h y c e f =
      let q : n - j ≡ suc (n - (j + 1)) = omega arith in
      let place : 8 * (j + 1) ≡ 8 * j + 8 = omega arith in
      rw (place, f, e, held_on b (8 * j) (max x (little 8 b (8 * j))) (n - (j + 1)), ← first_stored b (8 * j) (max x (little 8 b (8 * j))) (insert (min x (little 8 b (8 * j))) (held_in b (8 * j + 8) (n - (j + 1))))) (rw q at p)

-- what is carried on
module _ (b : List ℕ) (at x y : ℕ) (e : y ≡ little 8 b at) where
  pub carry_own : x < y → x ≡ min x (little 8 b at)
  carry_own h = omega arith

  pub carry_kept : ((i : ℕ) → Fits w8 (get_or b i 0)) → x < y → b ≡ sets b at (little_bytes 8 (max x (little 8 b at)))
  carry_kept f h = let q : max x (little 8 b at) ≡ little 8 b at = omega arith in rw q (sym (stored 8 b at f))

  pub carry_other : y ≤ x → y ≡ min x (little 8 b at)
  carry_other h = omega arith

  pub carry_stored : (c : List ℕ) → y ≤ x → c ≡ sets b at (little_bytes 8 x) → c ≡ sets b at (little_bytes 8 (max x (little 8 b at)))
  carry_stored c h f = let q : max x (little 8 b at) ≡ x = omega arith in rw q f
