-- The result of a call, from the position and the buffer that are left.
use Prim.Native.Nat.{ℕ, zero, suc, ◌*◌, ◌^◌, ◌<◌}
use mathlib.Core.Path.{◌≡◌, refl, ap, ◌∙◌}
use mathlib.Core.List.{List}
use native.Mathlib.Omega.{arith}
use borrow.Author.Rules.{rules, sfits_of}
use borrow.Author.Tests.{lt-ltb}
use lib.IntN.{ℤ, pos, ◌-ℤ◌}
use lib.ListN.{length}
use mir.Syntax.{w64}
use mir.Val.{SFits, to_z, of_z}
use mir.Facts.{to_z-of_z}
use Rattle.error.specs.Answer.{Answer, Ok, Err, number_of}
use Rattle.error.specs.declared.Refusal.{Refusal}
use Rattle.error.specs.declared.Refusal.TheVariants.{Io, Corrupt, Unsupported, NotFound, PathNotUtf8, BufferTooShort, ImageTooLarge, Overflow, CharacterNotCovered, TooDeep, NoPartitionTable, NoPartition, NoCheckpoint, TooLong, NotAListing, Contradiction, NoRoom, BadSeed}
use Rattle.error.proofs.Laws.{le_cases}
use Rattle.lookup.specs.declared.counted.Counted.{Counted}
use Rattle.calls.specs.Filled.{Filled, filled, filled_by, filled_at, Answered, answered, called_by}
use Rattle.results.specs.Call.{minus, number, result_of, buffer_of, result_at, Within}

-- a refusal's number as an i64
minus_back : (e : Refusal) → to_z w64 (of_z w64 (minus (number_of e))) ≡ minus (number_of e)
minus_back Io = refl
minus_back Corrupt = refl
minus_back Unsupported = refl
minus_back NotFound = refl
minus_back PathNotUtf8 = refl
minus_back BufferTooShort = refl
minus_back ImageTooLarge = refl
minus_back Overflow = refl
minus_back CharacterNotCovered = refl
minus_back TooDeep = refl
minus_back NoPartitionTable = refl
minus_back NoPartition = refl
minus_back NoCheckpoint = refl
minus_back TooLong = refl
minus_back NotAListing = refl
minus_back Contradiction = refl
minus_back NoRoom = refl
minus_back BadSeed = refl

pub refused_is : (e : Refusal) (z : ℤ) → z ≡ minus (number_of e) → to_z w64 (of_z w64 z) ≡ minus (number_of e)
refused_is e z h = rw h (minus_back e)

-- minus a number that a byte holds
module _ (n : ℕ) (h : n < 256) where
  pub minus_fits : SFits w64 (pos 0 -ℤ to_z w64 n)
  minus_fits = rw (lt-ltb n (2 ^ 63) (omega arith)) (of n h)
    where
      of : (n : ℕ) → n < 256 → SFits w64 (minus n)
      of zero h = sfits_of (omega arith)
      of (suc m) h = rw (lt-ltb 0 (suc m) (omega arith)) (sfits_of (omega arith))

  pub minus_is : (e : Refusal) → n ≡ number_of e → to_z w64 (of_z w64 (pos 0 -ℤ to_z w64 n)) ≡ minus (number_of e)
  minus_is e q = to_z-of_z {w = w64} minus_fits ∙ rw (lt-ltb n (2 ^ 63) (omega arith), q)

pub result_back : (p : Answer ℕ) → Within p → to_z w64 (of_z w64 (result_at p)) ≡ result_at p
result_back (Ok n) h = to_z-of_z {w = w64} (sfits_of h)
result_back (Err e) h = minus_back e

module _ (p : Answer ℕ) where
  pub count_fits : (n : ℕ) → Within p → p ≡ Ok n → SFits w64 (pos n)
  count_fits n h q = sfits_of (rw q at h)

  pub count_is : (n : ℕ) → Within p → p ≡ Ok n → to_z w64 n ≡ result_at p
  count_is n h q = let k : n < 2 ^ 63 = rw q at h in rw (q, lt-ltb n (2 ^ 63) k)

  pub refusal_is : (e : Refusal) (x : ℤ) → x ≡ minus (number_of e) → p ≡ Err e → to_z w64 (of_z w64 x) ≡ result_at p
  refusal_is e x h q = rw q (refused_is e x h)

-- the count of a call that answered lies within its buffer
module _ (a : Answer (List ℕ)) (b x : List ℕ) (r : Answer ℕ) (p : filled_at r x ≡ filled_by a b) (s : length b * 1 < 2 ^ 63) where
  pub call_within : Within r
  unfolding filled
  call_within = of r a (ap (λ (m : Filled). m.answer) p)
    where
      of : (r : Answer ℕ) (a : Answer (List ℕ)) → (filled_at r x).answer ≡ (filled_by a b).answer → Within r
      of (Ok n) (Ok t) =
          le_cases (λ (m : Filled). Ok n ≡ m.answer → n < 2 ^ 63) (λ h e. let q : n ≡ length t = cc in omega arith)
          (λ h e. absurd (let z : ◌≡◌ {A = ℕ} 0 1 = cc in omega arith))
      of (Ok n) (Err w) = λ e. absurd (let z : ◌≡◌ {A = ℕ} 0 1 = cc in omega arith)
      of (Err e) a = λ e. tt

  pub call_result : (z : ℤ) → z ≡ result_at r → to_z w64 (of_z w64 z) ≡ result_of a b
  call_result z e = rw e (result_back r call_within ∙ ap (λ (m : Filled). number m.answer) p)

  pub call_buffer : x ≡ buffer_of a b
  call_buffer = ap (λ (m : Filled). m.buffer) p

-- the same of a call that counts its nodes
module _ (c : Counted (List ℕ)) (b x : List ℕ) (r : Counted ℕ) (p : called_by r x ≡ answered c b) where
  without_nodes : filled_at r.answer x ≡ filled_by c.answer b
  without_nodes = ap (λ (m : Answered). m.result) p

  pub progress_within : length b * 1 < 2 ^ 63 → Within r.answer
  progress_within s = call_within c.answer b x r.answer without_nodes s

  pub progress_result : length b * 1 < 2 ^ 63 → (z : ℤ) → z ≡ result_at r.answer → to_z w64 (of_z w64 z) ≡ result_of c.answer b
  progress_result s z e = call_result c.answer b x r.answer without_nodes s z e

  pub progress_buffer : x ≡ buffer_of c.answer b
  progress_buffer = ap (λ (m : Filled). m.buffer) without_nodes

pub ruleset results = (rules, count_fits, count_is, refusal_is)

pub ruleset ends = (rules, refused_is, call_within, call_result, call_buffer, progress_within, progress_result, progress_buffer)

pub ruleset negated = (rules, minus_fits, minus_is)
