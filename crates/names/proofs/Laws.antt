-- A name read byte by byte, and its bytes.
use Prim.Native.Nat.{ℕ, zero, suc, ◌+◌, ◌≤◌, ◌<◌}
use mathlib.Core.Path.{◌≡◌, refl, sym, ap, ◌∙◌}
use mathlib.Core.List.{List, [], ◌∷◌}
use native.Mathlib.Omega.{arith}
use native.Mathlib.Nat.{zero-add, add-zero}
use lib.ListN.{length, get_or, take, drop}
use lib.Seq.{drop-cons, drop-length}
use Rattle.error.proofs.Laws.{same, other, eq_cases}
use Rattle.byte_fields.specs.Part.{part_of, up_to_zero}
use Rattle.byte_fields.specs.declared.Span.{Span}
use Rattle.utf8.specs.Text.{replaced}
use Rattle.utf8.proofs.Ascii.{ascii_unreplaced}
use Rattle.utf8.proofs.Reading.{replaced_end}
use Rattle.names.specs.Name.{name_from, name_of, name_bytes}
use Rattle.std.specs.List.{AllWithin}
use Rattle.names.specs.declared.Name.{Name}

-- n bytes of b have been passed, and none of them ends the name or is replaced
record Passed (b : List ℕ) (n : ℕ) : Type 0 where
  pub far : length (up_to_zero b) ≡ n + length (up_to_zero (drop n b))
  pub count : replaced (up_to_zero b) ≡ replaced (up_to_zero (drop n b))

-- a byte that does neither
abbrev pub Plain : ℕ → Type 0
Plain x = (x ≡ 0 → ⊥) × (x ≤ 0x7F)

byte_passed : (b : List ℕ) (n : ℕ) → Passed b n → n < length b → Plain (get_or b n 0) → Passed b (suc n)
unfolding up_to_zero
byte_passed b n p h l =
    let u : up_to_zero (drop n b) ≡ get_or b n 0 ∷ up_to_zero (drop (suc n) b) = rw (drop-cons b n 0 h) (sym (other _ _ _ _ _ l.0 refl)) in
    let f : length (up_to_zero b) ≡ n + suc (length (up_to_zero (drop (suc n) b))) = rw u at p.far in
    record { far = omega arith; count = rw (u, ascii_unreplaced _ _ l.1) at p.count }

all_passed : (b : List ℕ) (n : ℕ) → n ≤ length b → AllWithin Plain b 0 n → Passed b n
all_passed b zero h p = record { far = sym (zero-add _); count = refl }
all_passed b (suc n) h p = byte_passed b n (all_passed b n (omega arith) (λ k d l m. p k d l (omega arith))) (omega arith) (p n 0 (omega arith) (omega arith))

made : (r : Name) (start n k l m : ℕ) → r ≡ record { span = record { start = start; len = n }; replaced = k } → n ≡ l → k ≡ m → r ≡ record { span = record { start = start; len = l }; replaced = m }
made r start n k l m e h g = rw (h, g) at e

module _ (b : List ℕ) (n start : ℕ) (r : Name) (e : r ≡ record { span = record { start = start; len = n }; replaced = 0 }) where
  ended : Passed b n → up_to_zero (drop n b) ≡ [] → r ≡ name_from start b
  ended p h = made r start n 0 _ _ e (sym ((rw h at p.far) ∙ add-zero n)) (sym (rw (h, replaced_end) at p.count))

  -- the first n bytes are plain, and then the name ends
  pub name_zero : AllWithin Plain b 0 n → n < length b → get_or b n 0 ≡ 0 → r ≡ name_from start b
  unfolding up_to_zero
  name_zero p h k = ended (all_passed b n (omega arith) p) (rw (drop-cons b n 0 h) (sym (same _ _ _ _ _ k refl)))

pub name_end : (b : List ℕ) (start : ℕ) (r : Name) → r ≡ record { span = record { start = start; len = length b }; replaced = 0 } → AllWithin Plain b 0 (length b) → r ≡ name_from start b
unfolding up_to_zero
name_end b start r e p = ended b (length b) start r e (all_passed b (length b) (omega arith) p) (rw (drop-length b))

pub name_slow : (b c : List ℕ) (start k : ℕ) (r : Name) → c ≡ up_to_zero b → k ≡ replaced c → r ≡ record { span = record { start = start; len = length c }; replaced = k } → r ≡ name_from start b
name_slow b c start k r e h g = rw (h, e) at g

pub name_within : (b x : List ℕ) (s : Span) (r : Name) → x ≡ part_of b s → r ≡ name_from s.start x → r ≡ name_of b s
unfolding name_of
name_within b x s r e h = rw e at h

-- the bytes of a name are those of its part, up to the first zero byte
cut : (n : ℕ) (x : List ℕ) → take (length (up_to_zero (take n x))) x ≡ up_to_zero (take n x)
unfolding up_to_zero
cut zero x = refl
cut (suc n) [] = refl
cut (suc n) (x ∷ b) = eq_cases (λ (r : List ℕ). take (length r) (x ∷ b) ≡ r) (λ e. refl) (λ e. ap (λ (y : List ℕ). x ∷ y) (cut n b))

name_is : (b : List ℕ) (s : Span) → name_bytes b (name_of b s) ≡ up_to_zero (part_of b s)
unfolding name_bytes name_of part_of
name_is b s = cut s.len (drop s.start b)

number : (b : List ℕ) (s : Span) → (name_of b s).replaced ≡ replaced (up_to_zero (part_of b s))
unfolding name_of
number b s = refl

-- and the number is that of these bytes
name_replaced : (b : List ℕ) (s : Span) → (name_of b s).replaced ≡ replaced (name_bytes b (name_of b s))
name_replaced b s = rw (name_is b s) (number b s)

-- both, of a name m in a list q
pub name_facts : (q k : List ℕ) (s : Span) (m : Name) → q ≡ k → m ≡ name_of k s → (name_bytes q m ≡ up_to_zero (part_of k s)) × (m.replaced ≡ replaced (name_bytes q m))
name_facts q k s m e h = (rw (e, h) (name_is k s), rw (e, h) (name_replaced k s))

-- the bytes of a name in a list x that is k
pub bytes_in : (x k : List ℕ) (n : Name) (z : List ℕ) → x ≡ k → z ≡ name_bytes x n → z ≡ name_bytes k n
bytes_in x k n z e h = rw e at h
