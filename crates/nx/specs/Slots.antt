-- The volumes of a container. Document 01, nx.rs: "Volume slots: the first 100 at most, zeros dropped, order kept".
use Rattle.std.specs.Prelude.{ℕ, zero, suc, ◌+◌, ◌*◌, min, List, [], ◌∷◌}
use Rattle.error.specs.Answer.{Answer, Ok, Err, if_eq}
use Rattle.error.specs.declared.Refusal.TheVariants.{NotFound}
use Rattle.byte_fields.specs.Number.{number_at}
use Rattle.byte_fields.specs.Part.{part_of}
use Rattle.checkpoints.specs.declared.superblock.Superblock.{Superblock}

abbrev pub or_zero : Answer ℕ → ℕ
or_zero (Ok n) = n
or_zero (Err e) = 0

-- nx_fs_oid[i]
unfoldable pub slot_at : List ℕ → ℕ → ℕ
slot_at b i = or_zero (number_at 8 b (184 + 8 * i))

unfoldable pub slot_of : List ℕ → Superblock → ℕ → ℕ
slot_of image sb i = slot_at (part_of image sb.place) i

unfoldable pub slot_count : Superblock → ℕ
slot_count sb = min sb.max_volumes 100

-- n slots from the i-th on, zeros dropped
unfoldable pub slots_in : List ℕ → Superblock → ℕ → ℕ → List ℕ
slots_in image sb zero i = []
slots_in image sb (suc n) i = if_eq (slot_of image sb i) 0 (slots_in image sb n (i + 1)) (slot_of image sb i ∷ slots_in image sb n (i + 1))

-- the object ids of a container's volumes
abbrev pub volumes_of : List ℕ → Superblock → List ℕ
volumes_of image sb = slots_in image sb (slot_count sb) 0

-- "4 no such volume index"
unfoldable pub volume_at : ℕ → List ℕ → Answer ℕ
volume_at i [] = Err NotFound
volume_at zero (x ∷ xs) = Ok x
volume_at (suc i) (x ∷ xs) = volume_at i xs
