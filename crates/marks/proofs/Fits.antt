-- The tests of a bookmark that is handed in.
use Prim.Native.Nat.{ℕ, suc, ◌+◌, ◌*◌, ◌/◌, ◌≤◌, ◌<◌}
use mathlib.Core.Path.{◌≡◌, refl, sym, ap, ◌∙◌}
use mathlib.Core.Bool.{Bool, true, false}
use mathlib.Core.List.{List}
use native.Mathlib.Nat.{le-div_iff_mul-le, mul-zero}
use native.Mathlib.Decide.{dec_le}
use native.Mathlib.Omega.{arith}
use borrow.Author.Tests.{le-leb, lt-leb, leb-true, leb-false}
use lib.Dec.{leb, ltb}
use lib.ListN.{length}
use Rattle.error.specs.Answer.{Ok, Err, Answer}
use Rattle.error.specs.declared.Refusal.TheVariants.{Io}
use Rattle.error.proofs.Laws.{at_most_lem, above, same, other}
use Rattle.byte_fields.specs.Number.{little}
use Rattle.byte_fields.specs.declared.Span.{Span}
use Rattle.obj.specs.declared.reader.Reader.{Reader}
use Rattle.node.specs.Place.{value_span, placed_value}
use Rattle.node.specs.declared.place.Place.{Place}
use Rattle.node.proofs.Held.{value_held}
use Rattle.marks.specs.Mark.{part_fits, value_fits, inside, place_in, handed_in}
use Rattle.std.specs.Prelude.{None, Option, Some}

module _ (size block len : ℕ) where
  pub fits_empty : size ≡ 0 → true ≡ leb ((block + 1) * size) len
  fits_empty e = sym (le-leb ((block + 1) * size) len (rw (e, mul-zero) (omega arith)))

  pub fits_when : (size ≡ 0 → ⊥) → ltb block (len / size) ≡ leb ((block + 1) * size) len
  fits_when h = of (dec_le (suc block) (len / size))
    where
      of : Dec (suc block ≤ len / size) → ltb block (len / size) ≡ leb ((block + 1) * size) len
      of (Dec.yes p) = le-leb (suc block) (len / size) p ∙ sym (le-leb ((block + 1) * size) len ((le-div_iff_mul-le {k = size} {x = block + 1} {y = len} (omega (arith, h))).0 (omega (arith, p))))
      of (Dec.no p) = lt-leb (suc block) (len / size) (omega (arith, p)) ∙ sym (lt-leb ((block + 1) * size) len (of_over (dec_le ((block + 1) * size) len)))
        where
          of_over : Dec ((block + 1) * size ≤ len) → len < (block + 1) * size
          of_over (Dec.yes q) = absurd (p (omega (arith, (le-div_iff_mul-le {k = size} {x = block + 1} {y = len} (omega (arith, h))).1 q)))
          of_over (Dec.no q) = omega (arith, q)

-- a value's part
module _ (size : ℕ) (p : Place) (x : Option Span) (e : x ≡ placed_value p) where
  pub part_missing : x ≡ None → Ok p ≡ value_fits size p
  part_missing q = rw (← e, q)

  module _ (v : Span) (q : x ≡ Some v) where
    is : placed_value p ≡ Some (value_span p)
    is = value_held p v (sym e ∙ q)

    pub part_in : p.val_off + p.val_len ≤ size → Ok p ≡ value_fits size p
    part_in h = at_most_lem _ _ _ _ _ h refl ∙ ap (part_fits size p) (sym is)

    pub part_past : size < p.val_off + p.val_len → Err Io ≡ value_fits size p
    part_past h = above _ _ _ _ _ h refl ∙ ap (part_fits size p) (sym is)

module _ (size : ℕ) (p : Place) where
  pub key_past : size < p.key_off + p.key_len → Err Io ≡ inside size p
  unfolding inside
  key_past h = above _ _ _ _ _ h refl

  pub key_in_lem : (r : Answer Place) → p.key_off + p.key_len ≤ size → r ≡ value_fits size p → r ≡ inside size p
  unfolding inside
  key_in_lem r h k = at_most_lem _ _ _ _ _ h k

module _ (r : Reader) (image m : List ℕ) where
  pub length_other : (length m ≡ 24 → ⊥) → Err Io ≡ handed_in r image m
  unfolding handed_in
  length_other h = other _ _ _ _ _ h refl

  module _ (h : length m ≡ 24) (p : Place) (e : p ≡ place_in m) (d : Bool) (f : d ≡ leb ((p.block + 1) * r.block_size) (length image)) where
    tested : d ≡ leb ((little 8 m 0 + 1) * r.block_size) (length image)
    unfolding place_in
    tested = f ∙ ap (λ (x : Place). leb ((x.block + 1) * r.block_size) (length image)) e

    pub block_past : d ≡ false → Err Io ≡ handed_in r image m
    unfolding handed_in
    block_past q = same _ _ _ _ _ h (above _ _ _ _ _ (leb-false _ _ (sym tested ∙ q)) refl)

    pub block_in_lem : (x : Answer Place) → d ≡ true → x ≡ inside r.block_size p → x ≡ handed_in r image m
    unfolding handed_in
    block_in_lem x q k = same _ _ _ _ _ h (at_most_lem _ _ _ _ _ (leb-true _ _ (sym tested ∙ q)) (k ∙ ap (inside r.block_size) e))
