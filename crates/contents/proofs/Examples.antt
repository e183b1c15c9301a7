-- Small files over an image of 16 bytes, 1 to 16, in blocks of 4.
use Prim.Native.Nat.{ℕ}
use mathlib.Core.Path.{◌≡◌, refl}
use mathlib.Core.List.{List, [], ◌∷◌}
use Rattle.error.specs.Answer.{Ok, Err, if_le, if_eq}
use Rattle.error.specs.declared.Refusal.TheVariants.{Io, Corrupt, Overflow}
use Rattle.records.specs.declared.extent.Extent.{Extent}
use Rattle.extents.specs.Extents.{Disk, blocks, in_order, seek, lies, reach, allows, decide, counted_in}
use Rattle.files.specs.Read.{over, byte_at, span, bytes, read_at, read_all}
use Rattle.streams.specs.Stream.{piece, fetch, stream_by, stream}

abbrev x : ℕ → ℕ → ℕ → Extent
x a b c = record { logical = a; len = b; phys_block = c }

abbrev k : Disk
k = record { image = 1 ∷ 2 ∷ 3 ∷ 4 ∷ 5 ∷ 6 ∷ 7 ∷ 8 ∷ 9 ∷ 10 ∷ 11 ∷ 12 ∷ 13 ∷ 14 ∷ 15 ∷ 16 ∷ []; block = 4; count = 4 }

-- an EMPTY extent inside a longer one: the whole is read, and a part of it is not that part of the whole. A listing refuses it.
abbrev inner : List Extent
inner = x 0 8 1 ∷ x 2 0 3 ∷ []

inner_whole : read_at k 8 inner 0 8 ≡ Ok (5 ∷ 6 ∷ 7 ∷ 8 ∷ 9 ∷ 10 ∷ 11 ∷ 12 ∷ [])
unfolding counted_in lies reach blocks if_le if_eq in_order seek allows decide over byte_at span bytes read_at
inner_whole = refl

inner_part : read_at k 8 inner 3 2 ≡ Ok (0 ∷ 0 ∷ [])
unfolding counted_in lies reach blocks if_le if_eq in_order seek allows decide over byte_at span bytes read_at
inner_part = refl

inner_listed : read_all k 8 inner ≡ Err Corrupt
unfolding counted_in lies reach blocks if_le if_eq in_order seek allows decide over byte_at span bytes read_at read_all
inner_listed = refl

-- equal starts: the first is not looked at, though its block is out of the container
equal_starts : read_at k 4 (x 0 4 9 ∷ x 0 4 1 ∷ []) 0 4 ≡ Ok (5 ∷ 6 ∷ 7 ∷ 8 ∷ [])
unfolding counted_in lies reach blocks if_le if_eq in_order seek allows decide over byte_at span bytes read_at
equal_starts = refl

-- a read of no byte is refused with 8 by an extent that starts before it
none_wide : read_at k 18446744073709551615 (x 18446744073709551606 10 1 ∷ []) 18446744073709551608 0 ≡ Err Overflow
unfolding counted_in lies reach blocks if_le if_eq in_order seek allows decide over byte_at span bytes read_at
none_wide = refl

-- and is not refused by one out of the container, nor by any that starts at it
none_out : read_at k 8 (x 1 4 9 ∷ []) 4 0 ≡ Ok []
unfolding counted_in lies reach blocks if_le if_eq in_order seek allows decide over byte_at span bytes read_at
none_out = refl

-- an extent past the size: no file read looks at it, a stream tests its blocks
past_file : read_all k 2 (x 0 1 1 ∷ x 6 4 9 ∷ []) ≡ Ok (5 ∷ 0 ∷ [])
unfolding counted_in lies reach blocks if_le if_eq in_order seek allows decide over byte_at span bytes read_at read_all
past_file = refl

past_stream : stream k 2 (x 0 1 1 ∷ x 6 4 9 ∷ []) ≡ Err Corrupt
unfolding counted_in lies reach blocks if_le if_eq piece fetch stream_by stream
past_stream = refl

-- extents that overlap past the size: a stream answers, a listing of a file refuses
late_stream : stream k 2 (x 0 8 1 ∷ x 4 4 1 ∷ []) ≡ Ok (5 ∷ 6 ∷ [])
unfolding counted_in lies reach blocks if_le if_eq piece fetch stream_by stream
late_stream = refl

late_listed : read_all k 2 (x 0 8 1 ∷ x 4 4 1 ∷ []) ≡ Err Corrupt
unfolding counted_in lies reach blocks if_le if_eq in_order seek allows decide over byte_at span bytes read_at read_all
late_listed = refl

-- the last block is short in the image: a byte of it that is there cannot be read
short : read_at (record { image = 1 ∷ 2 ∷ 3 ∷ 4 ∷ 5 ∷ 6 ∷ []; block = 4; count = 2 }) 1 (x 0 4 1 ∷ []) 0 1 ≡ Err Io
unfolding counted_in lies reach blocks if_le if_eq in_order seek allows decide over byte_at span bytes read_at
short = refl

-- in a listing the sum of an extent that is not the last is never 8: the next one starts before it ends
wide_listed : read_all k 8 (x 18446744073709551606 10 1 ∷ x 18446744073709551608 1 1 ∷ []) ≡ Err Corrupt
unfolding counted_in lies reach blocks if_le if_eq in_order seek allows decide over byte_at span bytes read_at read_all
wide_listed = refl
