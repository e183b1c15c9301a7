-- The transaction numbers of the accepted checkpoints, and a checkpoint by its number. What this comes to is said in nx, specs/Numbers.antt. Document 02,
-- request 04.
use Rattle.std.specs.Prelude.{ℕ, zero, suc, ◌+◌, ◌^◌, max, min, List, [], ◌∷◌, length}
use Rattle.std.specs.Prelude.{Option, None, Some}
use Rattle.error.specs.Answer.{Answer, Ok, Err, ◌>>=◌, if_le, if_eq}
use Rattle.error.specs.declared.Refusal.TheVariants.{Corrupt, ImageTooLarge, NoCheckpoint}
use Rattle.obj.specs.declared.reader.Reader.{Reader}
use Rattle.geometry.specs.BlockZero.{geometry_at, area_at}
use Rattle.geometry.specs.declared.Geometry.{Geometry}
use Rattle.checkpoints.specs.Checkpoint.{accepted_at, block_place, checkpoint_of}
use Rattle.checkpoints.specs.declared.superblock.Superblock.{Superblock}
use Rattle.checkpoints.specs.declared.by_number.Choice.{Choice}
use Rattle.checkpoints.specs.declared.by_number.Choice.TheVariants.{Latest, Number}

-- ---- opening by number

-- an accepted block, if it has the number
abbrev pub of_number : ℕ → Option Superblock → Option Superblock
of_number x (Some sb) = if_eq sb.xid x (Some sb) None
of_number x None = None

abbrev pub earlier : Option Superblock → Option Superblock → Option Superblock
earlier (Some sb) rest = Some sb
earlier None rest = rest

-- "then open by number, taking the earliest of equals": of n blocks from the i-th on
unfoldable pub numbered_in : Reader → List ℕ → ℕ → ℕ → ℕ → ℕ → ℕ → Option Superblock
numbered_in r image start ring x zero i = None
numbered_in r image start ring x (suc n) i = earlier (of_number x (accepted_at r image ring (block_place r start i))) (numbered_in r image start ring x n (i + 1))

-- "13 when no accepted candidate has that number, in the place of the 2 for no candidate"
abbrev pub or_no_checkpoint : Option Superblock → Answer Superblock
or_no_checkpoint (Some sb) = Ok sb
or_no_checkpoint None = Err NoCheckpoint

unfoldable pub numbered_of : ℕ → List ℕ → Geometry → Answer Superblock
numbered_of x image g = area_at (length image) g >>= λ start. or_no_checkpoint (numbered_in g.reader image start g.ring x g.ring 0)

-- "Opening without a number remains the Rust's answer"
abbrev pub checkpoint_by : Choice → List ℕ → Geometry → Answer Superblock
checkpoint_by Latest image g = checkpoint_of image g
checkpoint_by (Number x) image g = numbered_of x image g

-- ---- the list

-- the number of an accepted block, before others
abbrev pub kept : Option Superblock → List ℕ → List ℕ
kept (Some sb) l = sb.xid ∷ l
kept None l = l

-- "the transaction numbers of all accepted checkpoints", in ring order: of n blocks from the i-th on
unfoldable pub numbers_in : Reader → List ℕ → ℕ → ℕ → ℕ → ℕ → List ℕ
numbers_in r image start ring zero i = []
numbers_in r image start ring (suc n) i = kept (accepted_at r image ring (block_place r start i)) (numbers_in r image start ring n (i + 1))

-- one number more: the greater first, and the lesser into the rest
unfoldable pub insert : ℕ → List ℕ → List ℕ
insert x [] = x ∷ []
insert x (y ∷ l) = max x y ∷ insert (min x y) l

-- "greatest first, repeats kept"
unfoldable pub descending : List ℕ → List ℕ
descending [] = []
descending (x ∷ l) = insert x (descending l)

-- "an empty list is 2 there"
abbrev pub some_numbers : List ℕ → Answer (List ℕ)
some_numbers [] = Err Corrupt
some_numbers (x ∷ l) = Ok (x ∷ l)

unfoldable pub numbers_of : List ℕ → Geometry → Answer (List ℕ)
numbers_of image g = area_at (length image) g >>= λ start. some_numbers (descending (numbers_in g.reader image start g.ring g.ring 0))

-- of an image: opening's own tests up to the candidates, "and the list tests nothing later"
unfoldable pub numbers_at : List ℕ → Answer (List ℕ)
numbers_at image = if_le (length image) (2 ^ 34) (geometry_at image >>= λ g. numbers_of image g) (Err ImageTooLarge)
