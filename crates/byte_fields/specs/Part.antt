-- Parts of a list of bytes, by where they lie. Document 01, bytes.rs.
use Rattle.std.specs.Prelude.{ℕ, ◌+◌, List, [], ◌∷◌, take, drop}
use Rattle.error.specs.Answer.{Answer, Ok, Err, if_le, if_eq}
use Rattle.error.specs.declared.Refusal.{Refusal}
use Rattle.byte_fields.specs.declared.Span.{Span}

-- the len bytes at off of size bytes, or the refusal e where they are not all there
unfoldable pub span_at : Refusal → ℕ → ℕ → ℕ → Answer Span
span_at e size off len = if_le (off + len) size (Ok (record { start = off; len = len })) (Err e)

-- the bytes of a span, or as many of them as there are
unfoldable pub part_of : List ℕ → Span → List ℕ
part_of b s = take s.len (drop s.start b)

-- "up to the first zero byte or the end"
unfoldable pub up_to_zero : List ℕ → List ℕ
up_to_zero [] = []
up_to_zero (x ∷ b) = if_eq x 0 [] (x ∷ up_to_zero b)
