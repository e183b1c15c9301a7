-- The part of an image that everything reads. Document 02, request 01, which the quotes are from.
use Rattle.std.specs.Prelude.{ℕ, ◌^◌, List, length}
use Rattle.error.specs.Answer.{Answer, Ok, Err, ◌>>=◌, if_le, if_eq}
use Rattle.error.specs.declared.Refusal.TheVariants.{Io, ImageTooLarge}
use Rattle.byte_fields.specs.Number.{little}
use Rattle.byte_fields.specs.Part.{part_of}
use Rattle.byte_fields.specs.declared.Span.{Span}
use Rattle.gpt.specs.Table.{table_of, entry_in}

-- 7, then 1 for "the image's first 4,096 bytes" (document 01, "Opening, in order"); "An image with NXSB at byte 32 skips this"
unfoldable pub part_of_image : List ℕ → Answer Span
part_of_image image =
    if_le (length image) (2 ^ 34)
    (if_le 4096 (length image)
    (if_eq (little 4 image 32) 0x4253584E (Ok (record { start = 0; len = length image })) (table_of image >>= λ t. entry_in image t t.count 0))
    (Err Io))
    (Err ImageTooLarge)

-- "Everything after reads that part as its whole image"
abbrev pub on_part : {A : Type 0} → (List ℕ → Answer A) → List ℕ → Answer A
on_part f image = part_of_image image >>= λ s. f (part_of image s)
