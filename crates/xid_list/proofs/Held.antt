-- Numbers of 8 bytes in a buffer.
use Prim.Native.Nat.{ℕ, zero, suc, ◌+◌, ◌*◌, ◌^◌, ◌≤◌, ◌<◌, min}
use mathlib.Core.Path.{◌≡◌, refl, sym, ap, ◌∙◌}
use mathlib.Core.List.{List, [], ◌∷◌, ◌++◌, append_assoc}
use mir.Syntax.{w8}
use mir.Val.{Fits}
use native.Mathlib.Nat.{zero-add}
use native.Mathlib.Omega.{arith}
use lib.ListN.{length, get_or, drop, length-append, get_or-append}
use lib.Seq.{sets, sets-eq, get_or-append-add}
use Rattle.byte_fields.specs.Number.{little, little_bytes}
use Rattle.byte_fields.proofs.Laws.{small}
use Rattle.byte_fields.proofs.Little.{little_length, little_back, little_same}
use Rattle.checkpoints.specs.Numbers.{insert, descending}
use Rattle.xid_list.specs.Listed.{bytes_of}
use Rattle.xid_list.specs.Inner.{held_in}

pub bytes_length : (l : List ℕ) → length (bytes_of l) ≡ 8 * length l
unfolding bytes_of
bytes_length [] = refl
bytes_length (x ∷ l) = length-append (little_bytes 8 x) (bytes_of l) ∙ (omega (arith, little_length 8 x, bytes_length l))

pub insert_length : (x : ℕ) (l : List ℕ) → length (insert x l) ≡ suc (length l)
unfolding insert
insert_length x [] = refl
insert_length x (y ∷ l) = ap suc (insert_length (min x y) l)

pub descending_length : (l : List ℕ) → length (descending l) ≡ length l
unfolding descending
descending_length [] = refl
descending_length (x ∷ l) = insert_length x (descending l) ∙ ap suc (descending_length l)

-- what is held depends on the bytes from there on
pub held_same : (n : ℕ) (b c : List ℕ) (off : ℕ) → ((i : ℕ) → off ≤ i → get_or b i 0 ≡ get_or c i 0) → held_in b off n ≡ held_in c off n
unfolding held_in
held_same zero b c off f = refl
held_same (suc n) b c off f = rw (little_same 8 b c off (λ i h k. f i h), held_same n b c (off + 8) (λ i h. f i (omega arith)))

-- numbers that 8 bytes hold
abbrev pub Wide : List ℕ → Type 0
Wide [] = Unit {0}
Wide (x ∷ l) = (x < 256 ^ 8) × Wide l

pub held_wide : (n : ℕ) (b : List ℕ) (off : ℕ) → ((i : ℕ) → Fits w8 (get_or b i 0)) → Wide (held_in b off n)
unfolding held_in
held_wide zero b off h = tt
held_wide (suc n) b off h = (small 8 b off h, held_wide n b (off + 8) h)

pub insert_wide : (x : ℕ) (l : List ℕ) → x < 256 ^ 8 → Wide l → Wide (insert x l)
unfolding insert
insert_wide x [] h p = (h, tt)
insert_wide x (y ∷ l) h p = (omega (arith, p.0), insert_wide (min x y) l (omega (arith, p.0)) p.1)

-- numbers that were stored are held
pub held_back : (p l rest : List ℕ) (off : ℕ) → length p ≡ off → Wide l → held_in (p ++ (bytes_of l ++ rest)) off (length l) ≡ l
unfolding held_in bytes_of
held_back p [] rest off e w = refl
held_back p (x ∷ l) rest off e w =
    let v = little_bytes 8 x in
    let c = p ++ ((v ++ bytes_of l) ++ rest) in
    let here : little 8 c off ≡ x
    = little_back 8 x c off w.0 (λ i h. ap (λ (k : ℕ). get_or c (k + i) 0) (sym e) ∙ (get_or-append-add p ((v ++ bytes_of l) ++ rest) i 0
    ∙ (get_or-append (v ++ bytes_of l) rest 0 i (rw (length-append v (bytes_of l), little_length 8 x) (omega arith)) ∙ get_or-append v (bytes_of l) 0 i (rw (little_length 8 x) h)))) in
    let q : c ≡ (p ++ v) ++ (bytes_of l ++ rest) = simp append_assoc in
    let on : held_in c (off + 8) (length l) ≡ l = rw q (held_back (p ++ v) l rest (off + 8) (length-append p v ∙ (omega (arith, little_length 8 x))) w.1) in
    rw (here, on)

pub held_length : (n : ℕ) (b : List ℕ) (off : ℕ) → length (held_in b off n) ≡ n
unfolding held_in
held_length zero b off = refl
held_length (suc n) b off = ap suc (held_length n b (off + 8))

-- numbers stored at the front, one more than were held there
module _ (b : List ℕ) (n x : ℕ) (u : 8 * n + 8 ≤ length b) where
  long : length (bytes_of (insert x (held_in b 0 n))) ≡ 8 * n + 8
  long = bytes_length (insert x (held_in b 0 n)) ∙ (rw (insert_length x (held_in b 0 n), held_length n b 0) (omega arith))

  pub insert_bytes : (c : List ℕ) → c ≡ sets b 0 (bytes_of (insert x (held_in b 0 n))) → c ≡ bytes_of (insert x (held_in b 0 n)) ++ drop (8 * n + 8) b
  insert_bytes c v = v ∙ (sets-eq (bytes_of (insert x (held_in b 0 n))) b 0 (rw (long, zero-add) u) ∙ (rw (long, zero-add)))

  pub insert_held : (c : List ℕ) → x < 2 ^ 64 → ((i : ℕ) → Fits w8 (get_or b i 0)) → c ≡ sets b 0 (bytes_of (insert x (held_in b 0 n))) → held_in c 0 (n + 1) ≡ insert x (held_in b 0 n)
  insert_held c small f v =
      let m = insert x (held_in b 0 n) in
      let y : length m ≡ n + 1 = insert_length x (held_in b 0 n) ∙ (rw (held_length n b 0) (omega arith)) in
      let w : held_in (bytes_of m ++ drop (8 * n + 8) b) 0 (length m) ≡ m = held_back [] m (drop (8 * n + 8) b) 0 refl (insert_wide x (held_in b 0 n) small (held_wide n b 0 f)) in
      rw (insert_bytes c v) (rw y at w)
