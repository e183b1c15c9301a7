-- WRONG LISTERS: what the third demand shuts out. Document 01, "The buyer's note on what I won't accept": "I won't take a lister that writes one fixed
-- text, one that writes each root well and leaves deeper nodes blank, or one that copies the image out; the third demand shuts these out". Proved, as
-- `wrong_listers`, in proofs/Listers.antt.
--
-- Each is as good as it can be otherwise: it refuses where the volume is not opened, and with 6 where its text does not fit. The demand (`DemandOn`, in
-- Demand.antt) is refuted of each
--   1. on small sticks, on which ours meets it;
--   2. of images read in any way, as our own reads them too, by any two volumes that are not the same, or images that differ with one volume in them.
use Rattle.std.specs.Prelude.{ℕ, ◌≡◌, false, cond, List, [], ◌∷◌, pos, eqb, get_or, take, drop}
use Rattle.std.specs.Prelude.{None}
use Rattle.error.specs.Answer.{Answer, Ok, ◌>>=◌}
use Rattle.volume.specs.declared.Which.{Which}
use Rattle.lists.specs.Lists.{root_id}
use Rattle.lines.specs.Shown.{InodeShown, EntryShown}
use Rattle.demand.specs.Trace.{Trace, says, within}
use Rattle.demand.specs.View.{View}
use Rattle.demand.specs.Listing.{form_over, volume_over, trace}
use Rattle.demand.specs.Lookup.{lookup}
use Rattle.demand.specs.Demand.{view_at, listing_of, Same, Lister, DemandOn}

-- ---- listers

-- the lister that writes `text` of an image and of what its volume answers
unfoldable pub writing : (List ℕ → View → Trace) → (List ℕ → Which → Answer View) → Lister
writing text view image w room = view image w >>= λ v. within room (text image v)

-- ours
abbrev pub ours : List ℕ → View → Trace
ours image v = trace v

-- "one fixed text"
abbrev pub fixed_text : List ℕ → List ℕ → View → Trace
fixed_text s image v = says s

-- "each root well", and "deeper nodes blank"
unfoldable pub root_alone : List ℕ → View → Trace
root_alone image v = volume_over v (form_over v (λ id. says []) root_id)

-- "copies the image out"
abbrev pub image_itself : List ℕ → View → Trace
image_itself image v = says image

-- ---- small sticks: a directory in the root, and in it one file, whose one byte is the image's first. Nothing reads what follows it

-- an inode with nothing but its flags and its id
abbrev pub small_inode : ℕ → ℕ → InodeShown
small_inode bsd i = record {
  id = i;
  parent = 1;
  own = i;
  create = 0;
  modify = 0;
  change = 0;
  access = 0;
  iflags = 0;
  links = pos 0;
  bsd = bsd;
  owner = 0;
  group = 0;
  mode = 16877;
  label = None;
  stream = None;
}

-- the root has inode 3, and that has inode 4
abbrev pub small_entries : ℕ → List EntryShown
small_entries i =
    cond (eqb i 2) (record { id = 3; date_added = 0; kind = 4; label = 97 ∷ [] } ∷ [])
    (cond (eqb i 3) (record { id = 4; date_added = 0; kind = 8; label = 98 ∷ [] } ∷ []) [])

abbrev pub small_file : ℕ → ℕ → List ℕ
small_file b i = cond (eqb i 4) (b ∷ []) []

abbrev pub small_view : ℕ → View
small_view b = record {
  label = 65 ∷ [];
  rule = record { case_insensitive = false; normalization_insensitive = false };
  inode = λ i. Ok (small_inode 0 i);
  entries = λ i. Ok (small_entries i);
  attributes = λ i. Ok [];
  contents = λ i. Ok (small_file b i);
  read = λ i off len. Ok (take len (drop off (small_file b i)));
}

abbrev pub small_at : List ℕ → Which → Answer View
small_at image w = Ok (small_view (get_or image 0 0))

abbrev pub small_find : List ℕ → Which → List ℕ → Answer InodeShown
small_find image w path = small_at image w >>= λ v. lookup v path

-- ---- what is shut out

-- images read in any way: what shows that a lister does not meet the demand
pub record ShutOut (view : List ℕ → Which → Answer View) (find : List ℕ → Which → List ℕ → Answer InodeShown) : Type 0 where
  -- two volumes that are not the same
  pub fixed_text_lem : (a b : List ℕ) (i j : Which) (v w : View) → view a i ≡ Ok v → view b j ≡ Ok w → (Same v w → ⊥)
      → (s : List ℕ) → DemandOn view find (writing (fixed_text s) view) → ⊥
  -- two that are not the same, and whose roots are written alike
  pub deeper_blank : (a b : List ℕ) (i j : Which) (v w : View) → view a i ≡ Ok v → view b j ≡ Ok w → (Same v w → ⊥)
      → (s : List ℕ) → root_alone a v ≡ says s → root_alone b w ≡ says s → DemandOn view find (writing root_alone view) → ⊥
  -- two images that differ, with the same volume in them
  pub image_copied : (a b : List ℕ) (i j : Which) (v w : View) → view a i ≡ Ok v → view b j ≡ Ok w → Same v w → (a ≡ b → ⊥)
      → DemandOn view find (writing image_itself view) → ⊥

pub record WrongListers : Type 0 where
  -- the small sticks
  pub ours_meets : DemandOn small_at small_find (writing ours small_at)
  pub fixed_text_lem : (s : List ℕ) → DemandOn small_at small_find (writing (fixed_text s) small_at) → ⊥
  pub deeper_blank : DemandOn small_at small_find (writing root_alone small_at) → ⊥
  pub image_copied : DemandOn small_at small_find (writing image_itself small_at) → ⊥
  -- images read in any way; and ours, on images, is the listing
  pub anywhere : (view : List ℕ → Which → Answer View) (find : List ℕ → Which → List ℕ → Answer InodeShown) → ShutOut view find
  pub ours_lists : (image : List ℕ) (w : Which) (room : ℕ) → writing ours view_at image w room ≡ listing_of image w room
