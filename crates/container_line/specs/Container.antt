-- The line of a container, `(container BLOCK_SIZE BLOCK_COUNT XID OID ..)`, in the listing's notation: document 01, "The listing (added)".
use Rattle.std.specs.Prelude.{ℕ, List, [], ◌∷◌}
use Rattle.error.specs.Answer.{Answer, Ok}
use Rattle.text.specs.Words.{ascii, digits, words}
use Rattle.lookup.specs.declared.counted.Counted.{Counted}
use Rattle.lookup.specs.Counted.{after, onto}
use Rattle.checkpoints.specs.declared.by_number.Choice.{Choice}
use Rattle.nx.specs.Open.{open_at}
use Rattle.nx.specs.Slots.{volumes_of}
use Rattle.nx.specs.declared.container.Container.{Container}

-- numbers, each after a space
unfoldable pub number_words : List ℕ → List ℕ → List ℕ
number_words [] x = x
number_words (n ∷ ns) x = ascii " " (digits n (number_words ns x))

unfoldable pub container_head : ℕ → ℕ → ℕ → List ℕ → List ℕ
container_head size count xid x = ascii "(container" (words (digits size ∷ digits count ∷ digits xid ∷ []) x)

unfoldable pub container_text : List ℕ → Container → List ℕ → List ℕ
container_text image c x =
    container_head c.reader.block_size c.reader.block_count c.sb.xid
    (number_words (volumes_of image c.sb) (ascii ")\n" x))

-- the line of a container, with the nodes gone through: document 02, request 06
unfoldable pub open_counted : Choice → List ℕ → Counted (List ℕ)
open_counted choice image = onto (open_at choice image) λ c s. after s (Ok (container_text image c []))

-- what `apfs_open` answers
abbrev pub open_text : Choice → List ℕ → Answer (List ℕ)
open_text choice image = (open_counted choice image).answer
