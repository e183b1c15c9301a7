-- The 24 bytes of a place: how they are written, and that they read back.
use Prim.Native.Nat.{ℕ, zero, suc, ◌+◌, ◌^◌, ◌≤◌, ◌<◌}
use mathlib.Core.Path.{◌≡◌, refl, sym, ap, ◌∙◌}
use mathlib.Core.List.{List, [], ◌++◌, append-nil}
use native.Mathlib.Nat.{zero-add, add_assoc}
use native.Mathlib.Omega.{arith}
use lib.ListN.{length, get_or, drop, length-append, get_or-append}
use lib.Seq.{sets, sets-eq, get_or-append-add}
use Rattle.error.specs.declared.Refusal.TheVariants.{BufferTooShort}
use Rattle.error.specs.Answer.{Ok, Err}
use Rattle.error.proofs.Laws.{at_most_lem, above}
use Rattle.byte_fields.specs.Number.{little, little_bytes}
use Rattle.byte_fields.proofs.Little.{little_length, little_back, sets_append}
use Rattle.node.specs.declared.place.Place.{Place}
use Rattle.calls.specs.Filled.{filled}
use Rattle.marks.specs.Mark.{mark_bytes, place_in}

pub mark_length : (p : Place) → length (mark_bytes p) ≡ 24
unfolding mark_bytes
mark_length p = simp (length-append, little_length)

-- a number stored in front of others
next : (b c rest : List ℕ) (at n x : ℕ) → c ≡ sets b at (little_bytes n x) → sets b at (little_bytes n x ++ rest) ≡ sets c (at + n) rest
next b c rest at n x e =
    sets_append (little_bytes n x) rest b at ∙ (ap (λ (k : ℕ). sets (sets b at (little_bytes n x)) (at + k) rest) (little_length n x)
    ∙ ap (λ (l : List ℕ). sets l (at + n) rest) (sym e))

-- five numbers stored one behind the other
module _ (p : Place) (b c d e f g : List ℕ) (u : c ≡ sets b 0 (little_bytes 8 p.block)) (v : d ≡ sets c 8 (little_bytes 4 p.key_off))
    (w : e ≡ sets d 12 (little_bytes 4 p.key_len)) (x : f ≡ sets e 16 (little_bytes 4 p.val_off)) (y : g ≡ sets f 20 (little_bytes 4 p.val_len)) where
  whole : g ≡ sets b 0 (mark_bytes p)
  unfolding mark_bytes
  whole = y ∙ (sym (next e f _ 16 4 p.val_off x) ∙ (sym (next d e _ 12 4 p.key_len w) ∙ (sym (next c d _ 8 4 p.key_off v) ∙ sym (next b c _ 0 8 p.block u))))

  pub mark_put : 24 ≤ length b → g ≡ mark_bytes p ++ drop 24 b
  mark_put h = whole ∙ (sets-eq (mark_bytes p) b 0 (omega (arith, mark_length p)) ∙ (rw (mark_length p, zero-add)))

same_place : {a b c d e f g h i j : ℕ} → a ≡ f → b ≡ g → c ≡ h → d ≡ i → e ≡ j →
    ◌≡◌ {A = Place} (record { block = a; key_off = b; key_len = c; val_off = d; val_len = e }) (record { block = f; key_off = g; key_len = h; val_off = i; val_len = j })
same_place p q r s t = rw (p, q, r, s, t)

-- what is left of a buffer that they were put into
module _ (p : Place) (b : List ℕ) where
  pub mark_short : length b < 24 → record { answer = Err BufferTooShort; buffer = b } ≡ filled (mark_bytes p) b
  unfolding filled
  mark_short h = above _ _ _ _ _ (omega (arith, mark_length p)) refl

  pub mark_filled : (c : List ℕ) → 24 ≤ length b → c ≡ mark_bytes p ++ drop 24 b → record { answer = Ok 24; buffer = c } ≡ filled (mark_bytes p) b
  unfolding filled
  mark_filled c h e = at_most_lem _ _ _ _ _ (omega (arith, mark_length p)) (rw (mark_length p, e))

-- places whose fields 24 bytes hold
pub record FieldsFit (p : Place) : Type 0 where
  pub block_fits : p.block < 256 ^ 8
  pub key_off_fits : p.key_off < 256 ^ 4
  pub key_len_fits : p.key_len < 256 ^ 4
  pub val_off_fits : p.val_off < 256 ^ 4
  pub val_len_fits : p.val_len < 256 ^ 4

-- a number behind a list, at the head, behind m bytes, and at the end
past : (n : ℕ) (xs ys : List ℕ) (off : ℕ) → little n (xs ++ ys) (length xs + off) ≡ little n ys off
unfolding little
past zero xs ys off = refl
past (suc n) xs ys off = rw (get_or-append-add xs ys off 0, add_assoc (length xs) off 1, past n xs ys (off + 1))

head : (n x : ℕ) (ys : List ℕ) → x < 256 ^ n → little n (little_bytes n x ++ ys) 0 ≡ x
head n x ys h = little_back n x (little_bytes n x ++ ys) 0 h (λ i k. ap (λ (j : ℕ). get_or (little_bytes n x ++ ys) j 0) (zero-add i) ∙ get_or-append (little_bytes n x) ys 0 i (rw (little_length n x) k))

behind : (n m x off : ℕ) (ys : List ℕ) → little n (little_bytes m x ++ ys) (m + off) ≡ little n ys off
behind n m x off ys = ap (λ (k : ℕ). little n (little_bytes m x ++ ys) (k + off)) (sym (little_length m x)) ∙ past n (little_bytes m x) ys off

last : (n x : ℕ) → x < 256 ^ n → little n (little_bytes n x) 0 ≡ x
last n x h = ap (λ (l : List ℕ). little n l 0) (sym (append-nil (little_bytes n x))) ∙ head n x [] h

-- what is kept is read back
pub mark_back : (p : Place) → FieldsFit p → place_in (mark_bytes p) ≡ p
unfolding place_in mark_bytes
mark_back p f =
    same_place
    (head 8 p.block _ f.block_fits)
    (behind 4 8 p.block 0 _ ∙ head 4 p.key_off _ f.key_off_fits)
    (behind 4 8 p.block 4 _ ∙ (behind 4 4 p.key_off 0 _ ∙ head 4 p.key_len _ f.key_len_fits))
    (behind 4 8 p.block 8 _ ∙ (behind 4 4 p.key_off 4 _ ∙ (behind 4 4 p.key_len 0 _ ∙ head 4 p.val_off _ f.val_off_fits)))
    (behind 4 8 p.block 12 _ ∙ (behind 4 4 p.key_off 8 _ ∙ (behind 4 4 p.key_len 4 _ ∙ (behind 4 4 p.val_off 0 _ ∙ last 4 p.val_len f.val_len_fits))))
