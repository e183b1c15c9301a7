-- A code: a way to write values, a way to read them back, that the one undoes the other before a byte that stops it, and that what
-- follows a text only follows it.
use Prim.Native.Nat.{ℕ, zero, suc, ◌+◌, ◌-◌, ◌*◌, ◌/◌, ◌%◌, ◌<◌, ◌≤◌, pred}
use mathlib.Core.Path.{◌≡◌, refl, ap, ◌∙◌, subst}
use mathlib.Core.Bool.{Bool, true, false, cond, not}
use mathlib.Core.List.{List, [], ◌∷◌, ◌++◌, tail}
use Rattle.std.specs.Prelude.{Option, None, Some}
use native.Mathlib.Omega.{arith}
use native.Mathlib.Nat.{div-add-mod'}
use lib.ListN.{get_or}
use lib.IntN.{ℤ, pos, negsuc}
use lib.Dec.{T, T_not, eqb, eqb_refl, ltb, ltb→lt}
use borrow.Author.Tests.{ltb-true, ltb-false, lt-ltb, le-ltb}
use Rattle.text.specs.Words.{ascii, places, digits, signed, glyph, pairs, bytes, bytes?, two?}
use Rattle.text.proofs.Digits.{digits_append, signed_append}
use Rattle.lines.proofs.After.{bytes_append, bytes?_append, two?_append}

-- what may follow a word: a byte below `-`
abbrev pub Stop : List ℕ → Type 0
Stop [] = ⊥
Stop (c ∷ x) = T (ltb c 45)

pub record Code (A : Type 0) : Type 0 where
  pub put : A → List ℕ → List ℕ
  pub get : List ℕ → A × List ℕ
  pub back : (a : A) (x : List ℕ) → Stop x → get (put a x) ≡ (a, x)
  pub after : (a : A) (y x : List ℕ) → put a (y ++ x) ≡ put a y ++ x

-- one text, one value, and one text after it
pub same : {A : Type 0} (c : Code A) (a b : A) {x y : List ℕ} → c.put a x ≡ c.put b y → Stop x → Stop y → (a ≡ b) × (x ≡ y)
same {A} c a b {x} {y} e h k =
    let p : ◌≡◌ {A = A × List ℕ} (a, x) (b, y) = cc (c.back a x h, c.back b y k) in
    (ap (λ z. z.0) p, ap (λ z. z.1) p)

-- two texts that differ at the k-th byte
pub apart : {A : Type 0} {x y : List ℕ} (k : ℕ) → x ≡ y → T (not (eqb (get_or x k 0) (get_or y k 0))) → A
apart {x = x} {y = y} k e h = absurd (T_not (eqb (get_or x k 0) (get_or y k 0)) h (subst (λ (z : List ℕ). T (eqb (get_or x k 0) (get_or z k 0))) e (eqb_refl (get_or x k 0))))

module _ {A : Type 0} (a b : A) where
  below : (c k : ℕ) → c < k → cond (ltb c k) a b ≡ a
  below c k h = rw (lt-ltb c k)

  above : (c k : ℕ) → k ≤ c → cond (ltb c k) a b ≡ b
  above c k h = rw (le-ltb c k)

-- ---- numbers

pub read_num : ℕ → List ℕ → ℕ × List ℕ
read_num n [] = (n, [])
read_num n (c ∷ x) = cond (ltb c 46) (n, c ∷ x) (read_num (n * 10 + (c - 48)) x)

num_digit : (n d m : ℕ) (x : List ℕ) → n * 10 + d ≡ m → read_num n ((48 + d) ∷ x) ≡ read_num m x
unfolding read_num
num_digit n d m x h = above _ _ (48 + d) 46 (omega arith) ∙ ap (λ (k : ℕ). read_num k x) (omega arith)

num_stop : (n : ℕ) (x : List ℕ) → Stop x → read_num n x ≡ (n, x)
unfolding read_num
num_stop n [] h = absurd h
num_stop n (c ∷ x) h = below _ _ c 46 (omega (arith, ltb→lt c 45 h))

num_places : (k n : ℕ) (x : List ℕ) → n ≤ k → read_num 0 (places k n x) ≡ read_num n x
unfolding places
num_places zero n x h = ap (λ (m : ℕ). read_num m x) (omega arith)
num_places (suc k) zero x h = refl
num_places (suc k) (suc n) x h = num_places k (suc n / 10) _ (omega arith) ∙ num_digit (suc n / 10) (suc n % 10) (suc n) x (omega arith)

pub num_back : (n : ℕ) (x : List ℕ) → Stop x → read_num 0 (digits n x) ≡ (n, x)
unfolding digits
num_back n x h = num_places n (n / 10) _ (omega arith) ∙ num_digit (n / 10) (n % 10) n x (omega arith) ∙ num_stop n x h

abbrev pub num : Code ℕ
num = record { put = digits; get = read_num 0; back = num_back; after = digits_append }

-- ---- signed numbers, and two numbers or none: what stops `read_num` at once is `-`

pub read_int : ℕ → List ℕ → ℤ × List ℕ
read_int n [] = (pos n, [])
read_int n (c ∷ x) = cond (ltb c 45) (pos n, c ∷ x) (negsuc (pred (read_num 0 x).0), (read_num 0 x).1)

int_stop : (n : ℕ) (x : List ℕ) → Stop x → read_int n x ≡ (pos n, x)
unfolding read_int
int_stop n [] h = absurd h
int_stop n (c ∷ x) h = below _ _ c 45 (ltb→lt c 45 h)

pub int_back : (z : ℤ) (x : List ℕ) → Stop x → read_int (read_num 0 (signed z x)).0 (read_num 0 (signed z x)).1 ≡ (z, x)
unfolding read_num read_int signed
int_back (pos n) x h = rw (num_back, int_stop)
int_back (negsuc n) x h = rw num_back

abbrev pub int : Code ℤ
int = record { put = signed; get = λ x. read_int (read_num 0 x).0 (read_num 0 x).1; back = int_back; after = signed_append }

pub read_two : ℕ → List ℕ → Option (ℕ × ℕ) × List ℕ
read_two n [] = (None, [])
read_two n (c ∷ x) = cond (ltb c 45) (Some (n, (read_num 0 x).0), (read_num 0 x).1) (None, x)

pub two_back : (o : Option (ℕ × ℕ)) (x : List ℕ) → Stop x → read_two (read_num 0 (two? o x)).0 (read_num 0 (two? o x)).1 ≡ (o, x)
unfolding read_num read_two
two_back None x h = refl
two_back (Some p) x h = rw (num_back p.0 (44 ∷ digits p.1 x) tt, num_back)

abbrev pub two : Code (Option (ℕ × ℕ))
two = record { put = two?; get = λ x. read_two (read_num 0 x).0 (read_num 0 x).1; back = two_back; after = two?_append }

-- ---- bytes

pub unglyph : ℕ → ℕ
unglyph c = cond (ltb c 58) (c - 48) (c - 87)

glyph_back : (d : ℕ) → (48 ≤ glyph d) × (unglyph (glyph d) ≡ d)
unfolding unglyph glyph
glyph_back d = go (ltb d 10) refl
  where
    go : (b : Bool) → ltb d 10 ≡ b → (48 ≤ glyph d) × (unglyph (glyph d) ≡ d)
    go true e = rw e (omega arith, below _ _ (48 + d) 58 (omega (arith, ltb-true)) ∙ omega arith)
    go false e = rw e (omega arith, above _ _ (87 + d) 58 (omega (arith, ltb-false)) ∙ omega arith)

mutual
  pub read_hex : List ℕ → List ℕ × List ℕ
  read_hex [] = ([], [])
  read_hex (c ∷ x) = cond (ltb c 46) ([], c ∷ x) (read_low (unglyph c) x)

  pub read_low : ℕ → List ℕ → List ℕ × List ℕ
  read_low h [] = ([], [])
  read_low h (c ∷ x) = ((h * 16 + unglyph c) ∷ (read_hex x).0, (read_hex x).1)

pub hex_back : (bs x : List ℕ) → Stop x → read_hex (pairs bs x) ≡ (bs, x)
unfolding read_hex pairs
hex_back [] [] h = absurd h
hex_back [] (c ∷ x) h = below _ _ c 46 (omega (arith, ltb→lt c 45 h))
hex_back (b ∷ bs) x h =
    above _ _ (glyph (b / 16)) 46 (omega (arith, (glyph_back (b / 16)).0))
    ∙ simp (hex_back bs x h, (glyph_back (b / 16)).1, (glyph_back (b % 16)).1, div-add-mod')

abbrev pub hex : Code (List ℕ)
hex = record { put = bytes; get = λ x. read_hex (tail x); back = hex_back; after = bytes_append }

pub read_name : List ℕ → Option (List ℕ) × List ℕ
read_name [] = (None, [])
read_name (c ∷ x) = cond (ltb c 46) (None, x) (Some (read_hex x).0, (read_hex x).1)

pub name_back : (o : Option (List ℕ)) (x : List ℕ) → Stop x → read_name (bytes? o x) ≡ (o, x)
unfolding read_name
name_back None x h = refl
name_back (Some bs) x h = rw hex_back

abbrev pub name : Code (Option (List ℕ))
name = record { put = bytes?; get = read_name; back = name_back; after = bytes?_append }

-- ---- one after the other, with a space between; and a value as the parts it is made of

infixr 60 ◌&◌
abbrev pub ◌&◌ : {A B : Type 0} → Code A → Code B → Code (A × B)
c & d = record {
  put = λ p x. c.put p.0 (ascii " " (d.put p.1 x));
  get = λ l. (((c.get l).0, (d.get (tail (c.get l).1)).0), (d.get (tail (c.get l).1)).1);
  back = λ p x h. rw (c.back p.0 (32 ∷ d.put p.1 x) tt, d.back p.1 x h);
  after = λ p y x. rw (d.after p.1 y x) (c.after p.0 (32 ∷ d.put p.1 y) x);
}

abbrev pub as_parts : {A B : Type 0} (f : A → B) (g : B → A) → ((a : A) → g (f a) ≡ a) → Code B → Code A
as_parts f g h c = record {
  put = λ a x. c.put (f a) x;
  get = λ l. (g (c.get l).0, (c.get l).1);
  back = λ a x k. rw (c.back (f a) x k, h a);
  after = λ a. c.after (f a);
}
