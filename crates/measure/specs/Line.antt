-- The line of a measurement, `(measure LENGTH DEPTH)`, in the listing's notation: document 02, request 09; document 01, "The listing (added)".
use Rattle.std.specs.Prelude.{ℕ, List, [], ◌∷◌}
use Rattle.error.specs.Answer.{Answer, Ok, Err, ◌>>=◌}
use Rattle.text.specs.Words.{ascii, digits, words}
use Rattle.volume.specs.declared.Which.{Which}
use Rattle.demand.specs.View.{View}
use Rattle.lookup.specs.declared.counted.Counted.{Counted}
use Rattle.lookup.specs.Counted.{after, onto}
use Rattle.volume.specs.Open.{volume_of_image}
use Rattle.volume.specs.declared.Volume.{Volume}
use Rattle.demand.specs.Demand.{view_of, view_of_part}
use Rattle.demand.specs.Measure.{Measure, most, measured}
use Rattle.forms.specs.Course.{nodes_into}
use Rattle.measure.specs.declared.gauge.Measured.{Measured}

-- what the code says
abbrev pub measured_told : Answer Measured → Answer Measure
measured_told (Ok m) = Ok (record { length = m.length; depth = m.depth })
measured_told (Err e) = Err e

unfoldable pub numbers_line : ℕ → ℕ → List ℕ → List ℕ
numbers_line n d x = ascii "(measure" (words (digits n ∷ digits d ∷ []) (ascii ")\n" x))

abbrev pub measure_line : Measure → List ℕ → List ℕ
measure_line m x = numbers_line m.length m.depth x

unfoldable pub volume_text : View → Answer (List ℕ)
volume_text v = measured v >>= λ m. Ok (measure_line m [])

-- ---- with the nodes gone through: document 02, request 06. They are those of a listing into 4,294,967,295 bytes.

unfoldable pub measured_on : List ℕ → Volume → ℕ → Counted (List ℕ)
measured_on image v s = after (nodes_into most image v s) (volume_text (view_of image v))

-- of the bytes of a container
unfoldable pub measure_counted : List ℕ → Which → Counted (List ℕ)
measure_counted part w = after (onto (volume_of_image part w) (λ v s. measured_on part v s)).nodes (view_of_part part w >>= volume_text)

-- what `apfs_measure` answers
abbrev pub measure_text : List ℕ → Which → Answer (List ℕ)
measure_text part w = (measure_counted part w).answer
