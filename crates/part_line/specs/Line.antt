-- The line of the part that a container is in, `(part OFFSET LENGTH)`, in the listing's notation. Document 02, request 01.
use Rattle.std.specs.Prelude.{ℕ, List, [], ◌∷◌}
use Rattle.error.specs.Answer.{Answer, Ok, ◌>>=◌}
use Rattle.byte_fields.specs.declared.Span.{Span}
use Rattle.gpt.specs.Part.{part_of_image}
use Rattle.text.specs.Words.{ascii, digits, words}

-- where it starts, and how many bytes it has
unfoldable pub part_line : Span → List ℕ → List ℕ
part_line s x = ascii "(part" (words (digits s.start ∷ digits s.len ∷ []) (ascii ")\n" x))

-- what `apfs_part` answers
unfoldable pub part_text : List ℕ → Answer (List ℕ)
part_text image = part_of_image image >>= λ s. Ok (part_line s [])
