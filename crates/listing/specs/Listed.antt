-- What the listing leaves of its buffer. Document 01, "The listing (added)" and "Answers other than success": "A refused listing leaves its buffer all
-- zeros", "Success writes nothing past its answer".
use Rattle.std.specs.Prelude.{ℕ, List, ◌++◌, length, drop, replicate}
use Rattle.error.specs.Answer.{Answer, Ok, Err}
use Rattle.lookup.specs.declared.counted.Counted.{Counted}
use Rattle.lookup.specs.Counted.{after, onto}
use Rattle.volume.specs.Open.{volume_of_image}
use Rattle.volume.specs.declared.Volume.{Volume}
use Rattle.volume.specs.declared.Which.{Which}
use Rattle.calls.specs.Filled.{Filled, Answered}
use Rattle.demand.specs.Listing.{listing}
use Rattle.demand.specs.Demand.{view_of, listing_of_part}
use Rattle.forms.specs.Course.{nodes_into}

abbrev pub listed_of : Answer (List ℕ) → List ℕ → Filled
listed_of (Ok t) b = record { answer = Ok (length t); buffer = t ++ drop (length t) b }
listed_of (Err e) b = record { answer = Err e; buffer = replicate (length b) 0 }

-- ---- with the nodes gone through: document 02, request 06

abbrev pub listed_by : Counted (List ℕ) → List ℕ → Answered
listed_by c b = record { nodes = c.nodes; result = listed_of c.answer b }

-- of a volume, into `room` bytes, s nodes gone through before
unfoldable pub listed_on : List ℕ → Volume → ℕ → ℕ → Counted (List ℕ)
listed_on image v room s = after (nodes_into room image v s) (listing (view_of image v) room)

-- the nodes of opening a volume of a container's bytes, and of its listing
unfoldable pub list_nodes : List ℕ → Which → ℕ → ℕ
list_nodes part w room = (onto (volume_of_image part w) (λ v s. listed_on part v room s)).nodes

-- what `apfs_list` answers, of a container's bytes
unfoldable pub list_counted : List ℕ → Which → ℕ → Counted (List ℕ)
list_counted part w room = after (list_nodes part w room) (listing_of_part part w room)
