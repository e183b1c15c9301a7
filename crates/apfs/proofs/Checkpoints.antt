-- What `apfs_checkpoints` gives: proof of what specs/Checkpoints.antt says.
use Prim.Native.Nat.{ℕ, ◌^◌, ◌≤◌}
use mathlib.Core.Path.{refl}
use mathlib.Core.List.{List}
use lib.ListN.{length}
use Rattle.error.specs.Answer.{Answer, Ok}
use Rattle.error.proofs.Laws.{le_cases}
use Rattle.byte_fields.specs.Part.{part_of}
use Rattle.gpt.proofs.Part.{whole, inside_small, part_self}
use Rattle.checkpoints.specs.Numbers.{numbers_at}
use Rattle.nx.specs.LatestCheckpoint.{block_zero, BlockZeroRead}
use Rattle.nx.specs.Numbers.{Lists, listed, none_listed}
use Rattle.nx.proofs.LatestCheckpoint.{latest_checkpoint}
use Rattle.nx.proofs.Numbers.{numbered_checkpoints}
use Rattle.calls.specs.Filled.{Filled}
use Rattle.xid_list.specs.Listed.{xids_in, xids_by}
use Rattle.results.specs.Call.{number}
use Rattle.apfs.specs.Checkpoints.{Whole, GivesList, written, too_short, empty, ApfsCheckpoints}

module _ (image out : List ℕ) where
  abbrev GivenBy : Answer (List ℕ) → Type 0
  GivenBy a = GivesList image out (number (xids_by a out).answer) (xids_by a out).buffer

  given : (l : List ℕ) → Whole image l → GivenBy (Ok l)
  unfolding xids_in
  given l w =
      le_cases (λ (f : Filled). GivesList image out (number f.answer) f.buffer)
      (λ h. written l w h refl refl) (λ h. too_short l w h (refl, refl))

  lists : Lists image (block_zero image) → GivenBy (numbers_at image)
  lists (listed l d r e) = rw e (given l (record { descends = d; repeats = r }))
  lists (none_listed n e) = rw e (empty n (refl, refl))

  in_part : length image ≤ 2 ^ 34 → BlockZeroRead image → GivenBy (numbers_at image)
  in_part h r = lists (numbered_checkpoints.listing image h ((latest_checkpoint.reading image).1 r))

pub apfs_checkpoints : ApfsCheckpoints
apfs_checkpoints = record {
  call = λ image out s e r. rw e (in_part (part_of image s) out (inside_small image s e) r);
  call_whole = λ image out h r. rw (whole image h r.first_bytes r.magic, part_self image) (in_part image out h r);
  no_part = λ image out e h. rw h (refl, refl);
}
