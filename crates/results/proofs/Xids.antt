-- The result and the buffer of the list of checkpoints.
use Prim.Native.Nat.{ℕ, ◌*◌, ◌^◌, ◌<◌}
use mathlib.Core.Path.{◌≡◌, ap}
use mathlib.Core.List.{List}
use native.Mathlib.Omega.{arith}
use borrow.Author.Rules.{rules}
use lib.IntN.{ℤ}
use lib.ListN.{length}
use mir.Syntax.{w64}
use mir.Val.{to_z, of_z}
use Rattle.error.specs.Answer.{Answer, Ok, Err}
use Rattle.calls.specs.Filled.{Filled, filled_at}
use Rattle.xid_list.specs.Listed.{bytes_of, xids_in, xids_by}
use Rattle.results.specs.Call.{number, result_at, Within}
use Rattle.results.proofs.Results.{refused_is}
use Rattle.results.proofs.Entries.{entries_within, counted_result, counted_buffer}

module _ (a : Answer (List ℕ)) (b x : List ℕ) (r : Answer ℕ) (p : filled_at r x ≡ xids_by a b) (s : length b * 1 < 2 ^ 63) where
  pub xids_within : Within r
  unfolding xids_in
  xids_within = of a r p
    where
      of : (a : Answer (List ℕ)) (r : Answer ℕ) → filled_at r x ≡ xids_by a b → Within r
      of (Ok l) r q = entries_within 8 (length l) (bytes_of l) b x r (omega arith) s q
      of (Err w) (Ok n) q = absurd (let z : ◌≡◌ {A = ℕ} 0 1 = cc (ap (λ (m : Filled). m.answer) q) in omega arith)
      of (Err w) (Err e) q = tt

  pub xids_result : (z : ℤ) → z ≡ result_at r → to_z w64 (of_z w64 z) ≡ number (xids_by a b).answer
  xids_result z e = counted_result (xids_by a b) x r p xids_within z e

  pub xids_buffer : x ≡ (xids_by a b).buffer
  xids_buffer = counted_buffer (xids_by a b) x r p

pub ruleset xids = (rules, refused_is, xids_within, xids_result, xids_buffer)
