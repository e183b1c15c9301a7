-- The result and the buffer of the list of wrong words.
use Prim.Native.Nat.{ℕ, ◌*◌, ◌^◌, ◌<◌}
use mathlib.Core.Path.{◌≡◌}
use mathlib.Core.List.{List}
use native.Mathlib.Omega.{arith}
use borrow.Author.Rules.{rules}
use lib.IntN.{ℤ}
use lib.ListN.{length}
use mir.Syntax.{w64}
use mir.Val.{to_z, of_z}
use Rattle.calls.specs.Filled.{filled_at}
use Rattle.wrong_word.specs.Mends.{Mend, listed, mends_in}
use Rattle.results.specs.Call.{number, result_at, Within}
use Rattle.results.proofs.Entries.{entries_within, counted_result, counted_buffer}
use Rattle.error.specs.Answer.{Answer}

module _ (ms : List Mend) (b x : List ℕ) (r : Answer ℕ) (p : filled_at r x ≡ mends_in ms b) (s : length b * 1 < 2 ^ 63) where
  pub mends_within : Within r
  unfolding mends_in
  mends_within = entries_within 12 (length ms) (listed ms) b x r (omega arith) s p

  pub mends_result : (z : ℤ) → z ≡ result_at r → to_z w64 (of_z w64 z) ≡ number (mends_in ms b).answer
  mends_result z e = counted_result (mends_in ms b) x r p mends_within z e

  pub mends_buffer : x ≡ (mends_in ms b).buffer
  mends_buffer = counted_buffer (mends_in ms b) x r p

pub ruleset mends = (rules, mends_within, mends_result, mends_buffer)
