-- HOW LONG WILL IT BE: what a measurement says of every listing. Document 02, request 09: "Work out the length in bytes and the greatest depth of a listing
-- without writing it". It is proved, as `measures`, in proofs/Measure.antt.
--
-- Of any image, checkpoint and volume:
--   1. where the measurement is got, one text of that length is the listing in every buffer of that length or more, and every shorter one gets 6;
--   2. where it is refused, but not with 14, a listing is refused, with the same number or with 6;
--   3. where a listing is got, the measurement is got with its length, or is 14 if that passes 4,294,967,295;
--   4. where the text as far as it is written passes that, the measurement is 14, and every buffer of at most that length gets 6; a fault that is met before,
--      and is no 6, is the measurement's;
--   5. the depth is that of the one tree that the volume shows, at most 64.
use Rattle.std.specs.Prelude.{ℕ, zero, suc, max, ◌-◌, ◌^◌, ◌≤◌, ◌<◌, ◌≡◌, ◌⊎◌, List, [], ◌∷◌, length}
use Rattle.error.specs.Answer.{Answer, Ok, Err, ◌>>=◌, number_of, if_eq}
use Rattle.error.specs.declared.Refusal.{Refusal}
use Rattle.error.specs.declared.Refusal.TheVariants.{BufferTooShort, TooLong}
use Rattle.gpt.specs.Part.{on_part}
use Rattle.volume.specs.declared.Which.{Which}
use Rattle.lists.specs.Lists.{root_id}
use Rattle.lines.specs.Shown.{EntryShown}
use Rattle.demand.specs.Trace.{stop}
use Rattle.demand.specs.View.{View}
use Rattle.demand.specs.Listing.{levels, trace, listing}
use Rattle.demand.specs.Tree.{Tree, depth_of}
use Rattle.demand.specs.Shows.{Shows}
use Rattle.demand.specs.Demand.{view_of_part, view_at, listing_of}

-- document 02, request 09: "the length in bytes and the greatest depth of a listing"
pub record Measure : Type 0 where
  pub length : ℕ
  pub depth : ℕ

-- "14 when the length passes 4,294,967,295"
abbrev pub most : ℕ
most = 2 ^ 32 - 1

-- "the greatest depth", of a node's entries, where `deep` is how far below the node of an id the deepest one lies
abbrev pub deepest_of : (ℕ → ℕ) → List EntryShown → ℕ
deepest_of deep [] = 0
deepest_of deep (e ∷ es) = max (suc (deep e.id)) (deepest_of deep es)

-- nothing lies below what can't be read
abbrev pub deepest_in : (ℕ → ℕ) → Answer (List EntryShown) → ℕ
deepest_in deep (Ok es) = deepest_of deep es
deepest_in deep (Err e) = 0

-- how far below the node of that id the deepest one lies, where so many levels are left, its own counted
unfoldable pub deepest : View → ℕ → ℕ → ℕ
deepest v zero i = 0
deepest v (suc d) i = deepest_in (deepest v d) (v.inode i >>= λ f. v.entries f.id)

-- of a listing, its length; and 14 in the place of its 6
abbrev pub of_listing : ℕ → Answer (List ℕ) → Answer Measure
of_listing depth (Ok t) = Ok (record { length = length t; depth = depth })
of_listing depth (Err e) = if_eq (number_of e) 6 (Err TooLong) (Err e)

-- "Work out the length in bytes and the greatest depth of a listing without writing it"; 14 is "met at the line that passes it, after its own reading", as 6
-- is in a buffer of so many bytes
unfoldable pub measured : View → Answer Measure
measured v = of_listing (deepest v levels root_id) (listing v most)

-- of the bytes of a container, and of an image
unfoldable pub measure_of_part : List ℕ → Which → Answer Measure
measure_of_part part w = view_of_part part w >>= measured

unfoldable pub measure_of : List ℕ → Which → Answer Measure
measure_of image w = on_part (λ p. measure_of_part p w) image

-- ---- what it says

-- one text of n bytes: "A buffer of that length or more then gets the listing; a shorter one gets 6"
pub record ListedFrom (n : ℕ) (image : List ℕ) (w : Which) : Type 0 where
  pub text : List ℕ
  pub long : length text ≡ n
  pub enough : (room : ℕ) → n ≤ room → listing_of image w room ≡ Ok text
  pub short : (room : ℕ) → room < n → listing_of image w room ≡ Err BufferTooShort

-- the one tree that a volume shows, and its depth
pub record Deep (v : View) (depth : ℕ) : Type 0 where
  pub tree : Tree
  pub shows : Shows v root_id tree
  pub only : (t : Tree) → Shows v root_id t → t ≡ tree
  pub greatest : depth ≡ depth_of tree
  pub no_deeper : depth ≤ 64

pub record Measures : Type 0 where
  -- 1. "A buffer of that length or more then gets the listing; a shorter one gets 6"
  pub measured_lists : (image : List ℕ) (w : Which) (m : Measure) → measure_of image w ≡ Ok m → ListedFrom m.length image w
  -- 2. "Where the measurement is refused with any number but 14, a listing of the same volume is refused with that number or 6"
  pub measured_refused : (image : List ℕ) (w : Which) (e : Refusal) → measure_of image w ≡ Err e → (e ≡ TooLong → ⊥)
      → (room : ℕ) → (listing_of image w room ≡ Err e) ⊎ (listing_of image w room ≡ Err BufferTooShort)
  -- 3. what a listing says of the measurement
  pub listed_measured : (image : List ℕ) (w : Which) (room : ℕ) (t : List ℕ) → listing_of image w room ≡ Ok t
      → length t ≤ most → (m : Measure) × ((measure_of image w ≡ Ok m) × (m.length ≡ length t))
  pub listed_long : (image : List ℕ) (w : Which) (room : ℕ) (t : List ℕ) → listing_of image w room ≡ Ok t → most < length t → measure_of image w ≡ Err TooLong
  -- 4. "14 when the length passes 4,294,967,295, met at the line that passes it, after its own reading"
  pub measured_long : (image : List ℕ) (w : Which) (v : View) → view_at image w ≡ Ok v → most < length (trace v).text
      → (measure_of image w ≡ Err TooLong) × ((room : ℕ) → room ≤ most → listing_of image w room ≡ Err BufferTooShort)
  pub measured_fault : (image : List ℕ) (w : Which) (v : View) (e : Refusal) → view_at image w ≡ Ok v → length (trace v).text ≤ most → (trace v).ended ≡ stop e
      → (number_of e ≡ 6 → ⊥) → measure_of image w ≡ Err e
  -- 5. "the greatest depth of a listing"
  pub measured_depth : (image : List ℕ) (w : Which) (m : Measure) → measure_of image w ≡ Ok m → (v : View) × ((view_at image w ≡ Ok v) × Deep v m.depth)
