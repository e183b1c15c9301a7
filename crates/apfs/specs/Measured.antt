-- HOW LONG WILL IT BE, at the exported calls: what `apfs_measure` says of `apfs_list`. Document 02, request 09. It is proved, as `apfs_measured`, in
-- proofs/Measured.antt.
--
-- Of every image, checkpoint, volume and buffer: the call writes a line with two numbers, or -6 where the line does not fit, or gives a refusal; a refusal
-- leaves the buffer as it was. Of two numbers that are got, the first is a length, at most 4,294,967,295, such that the listing goes into every buffer of
-- that length or more, and every shorter one gets 6; the second is the depth of the one tree that the volume shows. Where the measurement is refused, no
-- buffer of at most 4,294,967,295 bytes gets a listing; and where it is not refused with 14, none does, each being refused with the same number or with 6.
--
-- By their contracts (src/lib.rt, src/earlier.rt) `apfs_measure(image, volume, out)` gives `result_of (measuring image w) out` and leaves `buffer_of` of
-- it, and `apfs_list(image, volume, out)` gives `list_result image w out` and leaves `list_buffer image w out`, w being `latest volume`; at a checkpoint by
-- its number w is `numbered xid volume`.
use Rattle.std.specs.Prelude.{ℕ, ◌≤◌, ◌<◌, ◌≡◌, ◌⊎◌, List, [], ◌++◌, ℤ, pos, length, drop, replicate}
use Rattle.error.specs.Answer.{Answer, Ok, number_of}
use Rattle.error.specs.declared.Refusal.{Refusal}
use Rattle.error.specs.declared.Refusal.TheVariants.{TooLong}
use Rattle.gpt.specs.Part.{on_part}
use Rattle.volume.specs.declared.Which.{Which}
use Rattle.demand.specs.View.{View}
use Rattle.demand.specs.Demand.{view_at, listing_of}
use Rattle.demand.specs.Measure.{Deep}
use Rattle.listing.specs.Listed.{listed_of}
use Rattle.measure.specs.Line.{numbers_line, measure_text}
use Rattle.results.specs.Call.{minus, number, result_of, buffer_of}
use Rattle.apfs.specs.Opened.{Refused}

abbrev pub measuring : List ℕ → Which → Answer (List ℕ)
measuring image w = on_part (λ p. measure_text p w) image

abbrev pub list_result : List ℕ → Which → List ℕ → ℤ
list_result image w b = number (listed_of (listing_of image w (length b)) b).answer

abbrev pub list_buffer : List ℕ → Which → List ℕ → List ℕ
list_buffer image w b = (listed_of (listing_of image w (length b)) b).buffer

-- "A buffer of that length or more then gets the listing; a shorter one gets 6"
pub record Lists (image : List ℕ) (w : Which) (n : ℕ) : Type 0 where
  pub text : List ℕ
  pub long : length text ≡ n
  pub bounded : n ≤ 4_294_967_295
  pub enough : (b : List ℕ) → n ≤ length b → (list_result image w b ≡ pos n) × (list_buffer image w b ≡ text ++ drop n b)
  pub short : (b : List ℕ) → length b < n → (list_result image w b ≡ minus 6) × (list_buffer image w b ≡ replicate (length b) 0)

-- "the greatest depth"
pub record Goes (image : List ℕ) (w : Which) (depth : ℕ) : Type 0 where
  pub it : View
  pub opened : view_at image w ≡ Ok it
  pub deep : Deep it depth

pub data GivesMeasure (image : List ℕ) (w : Which) (out : List ℕ) (result : ℤ) (buffer : List ℕ) : Type 0 where
  -- "the length in bytes and the greatest depth of a listing"
  told : (n d : ℕ) → Lists image w n → Goes image w d → result ≡ pos (length (numbers_line n d [])) → buffer ≡ numbers_line n d [] ++ drop (length (numbers_line n d [])) out
      → GivesMeasure image w out result buffer
  too_short : (n d : ℕ) → Lists image w n → Goes image w d → length out < length (numbers_line n d []) → Refused out result buffer 6 → GivesMeasure image w out result buffer
  -- "Where the measurement is refused with any number but 14, a listing of the same volume is refused with that number or 6"
  refused : (e : Refusal) → Refused out result buffer (number_of e)
      → ((e ≡ TooLong → ⊥) → (b : List ℕ) → (list_result image w b ≡ minus (number_of e)) ⊎ (list_result image w b ≡ minus 6))
      -- "14 when the length passes 4,294,967,295"
      → ((b : List ℕ) → length b ≤ 4_294_967_295 → (x : Refusal) × (list_result image w b ≡ minus (number_of x))) → GivesMeasure image w out result buffer

abbrev pub ApfsMeasured : Type 0
ApfsMeasured = (image : List ℕ) (w : Which) (out : List ℕ) → GivesMeasure image w out (result_of (measuring image w) out) (buffer_of (measuring image w) out)
