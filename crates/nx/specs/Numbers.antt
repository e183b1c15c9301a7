-- THE CHECKPOINTS of a container: which numbers are listed, and what opening by number answers. Document 02, request 04. It is proved, as
-- `numbered_checkpoints`, in proofs/Numbers.antt.
--
-- Of every image of at most 2^34 bytes, damaged or not, whose block 0 is read and whose descriptor area lies in the image:
--   1. the list descends, and each number stands in it as often as there are candidates of that number on the ring; where there is no candidate, it is
--      refused with 2;
--   2. of any number, opening answers exactly what version 1, Fusion and the object map say of the superblock in the earliest candidate of that number,
--      with the object map at that number; where there is no such candidate, it is refused with 13;
--   3. opening by the first number of the list is opening at the latest checkpoint.
-- And 4. of every other image all three are refused alike, as opening is; 5. lookups in the object map of what was opened by a number use that number.
--
-- A candidate, told by its bytes and by those of its maps, and what is opened of a superblock stand in specs/LatestCheckpoint.antt. `numbers_at` is what
-- `xid_list::list_xids` lists, `open_at` what `nx::open` answers, by their contracts.
--
-- What is assumed: nothing. An image is any list of numbers.
use Rattle.std.specs.Prelude.{ℕ, suc, ◌+◌, ◌^◌, ◌≤◌, ◌≡◌, List, [], ◌∷◌, length}
use Rattle.error.specs.Answer.{Ok, Err, if_eq}
use Rattle.error.specs.declared.Refusal.{Refusal}
use Rattle.error.specs.declared.Refusal.TheVariants.{Corrupt, NoCheckpoint}
use Rattle.lookup.specs.Counted.{after}
use Rattle.geometry.specs.declared.Geometry.{Geometry}
use Rattle.checkpoints.specs.Numbers.{numbers_at}
use Rattle.checkpoints.specs.declared.by_number.Choice.TheVariants as choice
use Rattle.nx.specs.Open.{open_at}
use Rattle.nx.specs.declared.container.Container.{Container}
use Rattle.nx.specs.LatestCheckpoint.{block_zero, xid_of, superblock_of, Candidate, opened_as, AreaRead}

-- ---- lists of numbers

-- "greatest first": none is above one before it
abbrev pub NoneAbove : ℕ → List ℕ → Type 0
NoneAbove x [] = Unit {0}
NoneAbove x (y ∷ l) = (y ≤ x) × NoneAbove x l

abbrev pub Descends : List ℕ → Type 0
Descends [] = Unit {0}
Descends (x ∷ l) = NoneAbove x l × Descends l

-- how often a number stands in a list
unfoldable pub times : ℕ → List ℕ → ℕ
times x [] = 0
times x (y ∷ l) = if_eq y x 1 0 + times x l

-- of n numbers from i on, k are such
pub data HowMany (P : ℕ → Type 0) : ℕ → ℕ → ℕ → Type 0 where
  none_left : {i : ℕ} → HowMany P i 0 0
  one : {i n k : ℕ} → P i → HowMany P (i + 1) n k → HowMany P i (suc n) (suc k)
  not_one : {i n k : ℕ} → (P i → ⊥) → HowMany P (i + 1) n k → HowMany P i (suc n) k

-- ---- of an image whose block 0 gives g
module _ (image : List ℕ) (g : Geometry) where
  -- the i-th block of the ring is a candidate of the number x
  abbrev pub Numbered : ℕ → ℕ → Type 0
  Numbered x i = Candidate image g i × (xid_of image g i ≡ x)

  -- how listing ends: "the transaction numbers of all accepted checkpoints", "greatest first, repeats kept"; "an empty list is 2 there"
  pub data Lists : Type 0 where
    listed : (l : List ℕ) → Descends l → ((x : ℕ) → HowMany (Numbered x) 0 g.ring (times x l)) → numbers_at image ≡ Ok l → Lists
    none_listed : ((i : ℕ) → Candidate image g i → ⊥) → numbers_at image ≡ Err Corrupt → Lists

  -- how opening by a number ends: "taking the earliest of equals"; "13 when no accepted candidate has that number"
  pub data OpensBy (x : ℕ) : Type 0 where
    at_number_lem : (i : ℕ) → Numbered x i → ((j : ℕ) → Numbered x j → i ≤ j) → open_at (choice.Number x) image ≡ opened_as image g (superblock_of image g i) → OpensBy x
    no_number : ((i : ℕ) → Numbered x i → ⊥) → open_at (choice.Number x) image ≡ after 0 (Err NoCheckpoint) → OpensBy x

-- ---- the theorem

-- "in the place of the 2 for no candidate": where opening is refused before it looks for candidates, so are the others
pub record RefusedAlike (image : List ℕ) : Type 0 where
  pub why : Refusal
  pub latest : open_at choice.Latest image ≡ after 0 (Err why)
  pub by_number : (x : ℕ) → open_at (choice.Number x) image ≡ after 0 (Err why)
  pub list : numbers_at image ≡ Err why

pub record NumberedCheckpoints : Type 0 where
  -- 1
  pub listing : (image : List ℕ) → length image ≤ 2 ^ 34 → AreaRead image → Lists image (block_zero image)
  -- 2
  pub opening : (image : List ℕ) → length image ≤ 2 ^ 34 → AreaRead image → (x : ℕ) → OpensBy image (block_zero image) x
  -- 3
  pub first : (image : List ℕ) (x : ℕ) (l : List ℕ) → numbers_at image ≡ Ok (x ∷ l) → open_at (choice.Number x) image ≡ open_at choice.Latest image
  -- 4
  pub refused : (image : List ℕ) → ((length image ≤ 2 ^ 34) × AreaRead image → ⊥) → RefusedAlike image
  -- 5. "Object map lookups use the chosen number"
  pub lookups : (image : List ℕ) (x : ℕ) (c : Container) → (open_at (choice.Number x) image).answer ≡ Ok c → (c.sb.xid ≡ x) × (c.map.xid ≡ x)
