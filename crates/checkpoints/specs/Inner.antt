-- The shape of the ring's loop, for its proof: what is known of a block that is passed over. A buyer may pass over this file: what the loop answers is
-- proved equal to `latest_in` (specs/Checkpoint.antt), whatever it passes over.
use Rattle.std.specs.Prelude.{ℕ, ◌<◌, Bool, true, false, List, ◌≡◌, eqb}
use Rattle.std.specs.Prelude.{Option, Some}
use Rattle.error.specs.Answer.{Answer, Ok, Err}
use Rattle.byte_fields.specs.Number.{number_at}
use Rattle.checkpoints.specs.declared.superblock.Superblock.{Superblock}

-- r is true only where the block's transaction number is below the checkpoint's
pub record Older (b : List ℕ) (best : Option Superblock) (r : Bool) : Type 0 where
  pub known : r ≡ true → (sb : Superblock) × ((xid : ℕ) × ((best ≡ Some sb) × (number_at 8 b 16 ≡ Ok xid) × (xid < sb.xid)))

-- a number that was read is x
abbrev pub is_number : Answer ℕ → ℕ → Bool
is_number (Ok n) x = eqb n x
is_number (Err e) x = false
