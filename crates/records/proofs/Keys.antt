-- Which keys are taken, and that no key has both forms. Document 02, request 03.
use Prim.Native.Nat.{ℕ, ◌+◌, ◌*◌, ◌%◌, ◌≤◌}
use mathlib.Core.Path.{◌≡◌, refl, sym}
use mathlib.Core.Bool.{Bool, true, false}
use mathlib.Core.List.{List, [], ◌∷◌}
use native.Mathlib.Omega.{arith}
use lib.ListN.{length, get_or}
use Rattle.error.specs.Answer.{Answer, Ok, Err, ◌>>=◌, if_le, if_eq}
use Rattle.error.specs.declared.Refusal.TheVariants.{Corrupt}
use Rattle.error.proofs.Laws.{got_is, bound, same, other, at_most_lem, eq_cases, le_cases}
use Rattle.byte_fields.specs.Number.{little, number_at}
use Rattle.byte_fields.specs.declared.Span.{Span}
use Rattle.records.specs.Directory.{rest_from, hashed_name, plain_name, name_in}

-- what is taken, in words for a reader: hashed keys exactly so
pub record HashedKey (key : List ℕ) (s : Span) : Type 0 where
  pub h : ℕ
  pub read : number_at 4 key 8 ≡ Ok h
  pub long : length key ≡ 12 + h % 1024
  pub name : s ≡ rest_from key 12

-- and plain keys
pub record PlainKey (key : List ℕ) (s : Span) : Type 0 where
  pub n : ℕ
  pub read : number_at 2 key 8 ≡ Ok n
  pub long : length key ≡ 10 + n
  pub name : s ≡ rest_from key 10

-- one test of a key's length
taken : (a b : ℕ) (r s : Span) → if_eq a b (Ok r) (Err Corrupt) ≡ Ok s → (a ≡ b) × (s ≡ r)
taken a b r s =
    eq_cases (λ (x : Answer Span). x ≡ Ok s → (a ≡ b) × (s ≡ r)) (λ e h. (e, sym (got_is r s h)))
    (λ e h. cc)

module _ (key : List ℕ) (s : Span) where
  pub hashed_means : (hashed_name key ≡ Ok s → HashedKey key s) × (HashedKey key s → hashed_name key ≡ Ok s)
  unfolding hashed_name
  hashed_means = (
    λ e. let a = bound (number_at 4 key 8) _ s e in let t = taken _ _ _ s a.1.1 in record { h = a.0; read = a.1.0; long = t.0; name = t.1 },
    λ k. rw (k.read, k.name) (sym (same _ _ _ _ _ k.long refl)),
  )

  pub plain_means : (plain_name key ≡ Ok s → PlainKey key s) × (PlainKey key s → plain_name key ≡ Ok s)
  unfolding plain_name
  plain_means = (
    λ e. let a = bound (number_at 2 key 8) _ s e in let t = taken _ _ _ s a.1.1 in record { n = a.0; read = a.1.0; long = t.0; name = t.1 },
    λ k. rw (k.read, k.name) (sym (same _ _ _ _ _ k.long refl)),
  )

-- the four bytes at 8 as a number, over the two
wider : (key : List ℕ) (h n : ℕ) → number_at 4 key 8 ≡ Ok h → number_at 2 key 8 ≡ Ok n → (m : ℕ) × (h ≡ n + 65536 * m)
unfolding number_at little
wider key h n =
    le_cases (λ (a : Answer ℕ). a ≡ Ok h → number_at 2 key 8 ≡ Ok n → (m : ℕ) × (h ≡ n + 65536 * m))
    (λ l e. le_cases (λ (a : Answer ℕ). a ≡ Ok n → (m : ℕ) × (h ≡ n + 65536 * m))
    (λ k f. (get_or key 10 0 + 256 * (get_or key 11 0 + 256 * 0), omega (arith, got_is _ h e, got_is _ n f)))
    (λ k f. absurd (omega arith)))
    (λ l e f. cc)

apart : (l h n m : ℕ) → h ≡ n + 65536 * m → l ≡ 12 + h % 1024 → l ≡ 10 + n → ⊥
apart l h n m e p q = omega arith

-- no bytes are of both forms: so the order in which a reader tries them does not matter
pub forms_apart : (key : List ℕ) (s t : Span) → hashed_name key ≡ Ok s → plain_name key ≡ Ok t → ⊥
forms_apart key s t e f =
    let a = (hashed_means key s).0 e in
    let b = (plain_means key t).0 f in
    let w = wider key a.h b.n a.read b.read in
    apart (length key) a.h b.n w.0 w.1 a.long b.long

-- what is not taken is 2
not_taken : (w k : ℕ) (f : ℕ → ℕ) (key : List ℕ) → ((t : Span) → (number_at w key 8 >>= λ h. if_eq (length key) (f h) (Ok (rest_from key k)) (Err Corrupt)) ≡ Ok t → ⊥)
    → (number_at w key 8 >>= λ h. if_eq (length key) (f h) (Ok (rest_from key k)) (Err Corrupt)) ≡ Err Corrupt
unfolding number_at
not_taken w k f key =
    le_cases (λ (a : Answer ℕ). ((t : Span) → (a >>= λ h. if_eq (length key) (f h) (Ok (rest_from key k)) (Err Corrupt)) ≡ Ok t → ⊥)
    → (a >>= λ h. if_eq (length key) (f h) (Ok (rest_from key k)) (Err Corrupt)) ≡ Err Corrupt)
    (λ l. eq_cases (λ (x : Answer Span). ((t : Span) → x ≡ Ok t → ⊥) → x ≡ Err Corrupt) (λ e h. absurd (h (rest_from key k) refl)) (λ e h. refl))
    (λ l h. refl)

-- "A key of the other form … is 2"
pub other_form : (key : List ℕ) (s : Span) → (hashed_name key ≡ Ok s → name_in false key ≡ Err Corrupt) × (plain_name key ≡ Ok s → name_in true key ≡ Err Corrupt)
unfolding name_in hashed_name plain_name
other_form key s = (
  λ e. not_taken 2 10 (λ n. 10 + n) key (λ t f. forms_apart key s t e f),
  λ e. not_taken 4 12 (λ h. 12 + h % 1024) key (λ t f. forms_apart key t s f e),
)

-- document 01's rule, and the Rust's: "Directory keys under 12 bytes are 2; others are told by length: 12 + (low 10 bits of the 32-bit number at 8), else
-- 10 + (16 bits at 8), else 2"
unfoldable pub told_by_length : List ℕ → Answer Span
told_by_length key =
    number_at 4 key 8 >>= λ h.
    if_eq (length key) (12 + h % 1024) (Ok (rest_from key 12))
    (number_at 2 key 8 >>= λ n. if_eq (length key) (10 + n) (Ok (rest_from key 10)) (Err Corrupt))

four : (key : List ℕ) → 12 ≤ length key → number_at 4 key 8 ≡ Ok (little 4 key 8)
unfolding number_at
four key l = sym (at_most_lem _ _ _ _ _ l refl)

by_hash : (key : List ℕ) (h : ℕ) (s : Span) → number_at 4 key 8 ≡ Ok h → length key ≡ 12 + h % 1024 → s ≡ rest_from key 12 → told_by_length key ≡ Ok s
unfolding told_by_length
by_hash key h s p l k = rw (p, k) (sym (same _ _ _ _ _ l refl))

by_plain : (key : List ℕ) (h n m : ℕ) (s : Span) → number_at 4 key 8 ≡ Ok h → number_at 2 key 8 ≡ Ok n → h ≡ n + 65536 * m → length key ≡ 10 + n → s ≡ rest_from key 10
    → told_by_length key ≡ Ok s
unfolding told_by_length
by_plain key h n m s p q e l k =
    rw (p, q, k) (sym (other _ _ _ _ _ (λ u. apart (length key) h n m e u l) (same _ _ _ _ _ l refl)))

-- a key of its volume's form and of at least 12 bytes is read by it as it is now
pub as_before : (hashed : Bool) (key : List ℕ) (s : Span) → name_in hashed key ≡ Ok s → 12 ≤ length key → told_by_length key ≡ Ok s
unfolding name_in told_by_length
as_before true key s e l =
    let a = (hashed_means key s).0 e in
    by_hash key a.h s a.read a.long a.name
as_before false key s e l =
    let b = (plain_means key s).0 e in
    let w = wider key (little 4 key 8) b.n (four key l) b.read in
    by_plain key (little 4 key 8) b.n w.0 s (four key l) b.read w.1 b.long b.name

-- "A case-sensitive stick with a one-byte stored name was refused, because the twelve bytes tried first weren't there": its key is read now
abbrev pub one_byte : List ℕ
one_byte = 2 ∷ 0 ∷ 0 ∷ 0 ∷ 0 ∷ 0 ∷ 0 ∷ 0x90 ∷ 1 ∷ 0 ∷ 97 ∷ []

pub refused_before : told_by_length one_byte ≡ Err Corrupt
unfolding told_by_length number_at if_le
refused_before = refl

pub read_now : name_in false one_byte ≡ Ok (record { start = 10; len = 1 })
unfolding name_in plain_name number_at little if_le if_eq
read_now = refl
