-- The leaves' answers as numbers, for the host. Nothing here is of the papers: how an answer is passed on is ours.
use Rattle.std.specs.Prelude.{ℕ, ◌+◌, Bool, true, false, not, List, eqb}
use Rattle.error.specs.Answer.{Answer, Ok, Err, number_of, if_eq}
use Rattle.byte_fields.specs.Number.{number_at}
use Rattle.obj.specs.Header.{kind_of}
use Rattle.obj.specs.declared.header.ObjHeader.{ObjHeader}
use Rattle.utf8.specs.declared.Piece.{Piece}
use Rattle.utf8.specs.declared.Piece.TheVariants.{End, WellFormed, IllFormed}

abbrev pub value_or : ℕ → Answer ℕ → ℕ
value_or other (Ok x) = x
value_or other (Err e) = other

abbrev pub refusal_in : {A : Type 0} → Answer A → ℕ
refusal_in (Ok x) = 0
refusal_in (Err e) = number_of e

abbrev pub one_if : Bool → ℕ
one_if true = 1
one_if false = 0

abbrev pub is_not0 : ℕ → Bool
is_not0 n = not (eqb n 0)

unfoldable pub field_at : List ℕ → ℕ → ℕ → Answer ℕ
field_at b off width =
    if_eq width 2 (number_at 2 b off) (if_eq width 4 (number_at 4 b off) (if_eq width 8 (number_at 8 b off) (Ok 0)))

abbrev pub piece_number : Piece → ℕ
piece_number End = 0
piece_number (WellFormed n) = n
piece_number (IllFormed n) = 256 + n

unfoldable pub field_of : ℕ → ObjHeader → ℕ
field_of n h =
    if_eq n 0 h.cksum
    (if_eq n 1 h.oid
    (if_eq n 2 h.xid
    (if_eq n 3 h.obj_type
    (if_eq n 4 h.subtype
    (if_eq n 5 (kind_of h) 0)))))

abbrev pub header_field : ℕ → Answer ObjHeader → ℕ
header_field n (Ok h) = field_of n h
header_field n (Err e) = 0
