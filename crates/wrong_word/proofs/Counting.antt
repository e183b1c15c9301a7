-- How many entries the bytes of a list are.
use Prim.Native.Nat.{ℕ, ◌*◌, ◌/◌}
use mathlib.Core.Path.{◌≡◌, refl, ap, ◌∙◌}
use mathlib.Core.Bool.{Bool, true, false}
use mathlib.Core.List.{List, [], ◌∷◌, ◌++◌}
use native.Mathlib.Omega.{arith}
use borrow.Author.Rules.{rules}
use lib.Dec.{leb}
use lib.ListN.{length, drop, length-append}
use Rattle.error.specs.Answer.{Answer, Ok, Err, pick, if_le}
use Rattle.error.specs.declared.Refusal.{Refusal}
use Rattle.error.specs.declared.Refusal.TheVariants.{BufferTooShort}
use Rattle.byte_fields.proofs.Little.{little_length}
use Rattle.calls.specs.Filled.{Filled, filled, filled_at}
use Rattle.wrong_word.specs.Mends.{Mend, mends_in, entry, listed}

pub listed_length : (ms : List Mend) → length (listed ms) ≡ 12 * length ms
unfolding listed entry
listed_length [] = refl
listed_length (m ∷ ms) = simp (length-append, little_length, listed_length ms) (omega arith)

-- how many entries of 12 bytes
abbrev twelfth : Answer ℕ → Answer ℕ
twelfth (Ok n) = Ok (n / 12)
twelfth (Err e) = Err e

abbrev twelfths : Filled → Filled
twelfths f = record { answer = twelfth f.answer; buffer = f.buffer }

twelfths_in : (ms : List Mend) (b : List ℕ) → twelfths (filled (listed ms) b) ≡ mends_in ms b
unfolding filled mends_in if_le
twelfths_in ms b = rw (listed_length ms) (of (leb (12 * length ms) (length b)))
  where
    count : 12 * length ms / 12 ≡ length ms
    count = omega arith

    of : (d : Bool) →
        twelfths (pick d (record { answer = Ok (12 * length ms); buffer = listed ms ++ drop (12 * length ms) b }) (record { answer = Err BufferTooShort; buffer = b }))
        ≡ pick d (record { answer = Ok (length ms); buffer = listed ms ++ drop (12 * length ms) b }) (record { answer = Err BufferTooShort; buffer = b })
    of true = rw count
    of false = refl

module _ (ms : List Mend) (b out : List ℕ) (r : Answer ℕ) (p : filled_at r out ≡ filled (listed ms) b) where
  pub entries_in_lem : (n : ℕ) → r ≡ Ok n → filled_at (Ok (n / 12)) out ≡ mends_in ms b
  entries_in_lem n e = ap twelfths (rw e at p) ∙ twelfths_in ms b

  pub entries_short : (e : Refusal) → r ≡ Err e → filled_at (Err e) out ≡ mends_in ms b
  entries_short e q = ap twelfths (rw q at p) ∙ twelfths_in ms b

pub ruleset counts = (rules, entries_in_lem, entries_short)
