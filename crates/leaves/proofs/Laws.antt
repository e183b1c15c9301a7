-- How a number's, a span's, a header's and a piece's answer is passed on.
use Prim.Native.Nat.{ℕ, ◌+◌, ◌*◌, ◌^◌, ◌<◌}
use mathlib.Core.Path.{◌≡◌, sym, ap, ◌∙◌}
use mathlib.Core.List.{List}
use lib.ListN.{length}
use native.Mathlib.Omega.{arith}
use borrow.Author.Rules.{rules}
use mir.Syntax.{w64}
use mir.Val.{Fits}
use Rattle.error.specs.Answer.{Answer, number_of, Err, Ok}
use Rattle.error.specs.declared.Refusal.{Refusal}
use Rattle.obj.specs.declared.header.ObjHeader.{ObjHeader}
use Rattle.utf8.specs.Text.{piece_of, size_of}
use Rattle.utf8.specs.declared.Piece.{Piece}
use Rattle.utf8.specs.declared.Piece.TheVariants.{IllFormed}
use Rattle.utf8.proofs.Pieces.{size_within}
use Rattle.leaves.specs.Leaves.{refusal_in, header_field, field_of, piece_number}
use Rattle.byte_fields.specs.declared.Span.{Span}

pub number_refused : (n : Answer ℕ) (e : Refusal) (z : ℕ) → n ≡ Err e → z ≡ number_of e → z ≡ refusal_in n
number_refused n e z q k = rw q k

pub span_refused : (s : Answer Span) (e : Refusal) (z : ℕ) → s ≡ Err e → z ≡ number_of e → z ≡ refusal_in s
span_refused s e z q k = rw q k

module _ (r : Answer ObjHeader) (a : Answer ObjHeader) (p : r ≡ a) where
  pub header_taken : (h : ObjHeader) → r ≡ Ok h → 0 ≡ refusal_in a
  header_taken h q = rw (← p, q)

  pub header_refused : (e : Refusal) (z : ℕ) → r ≡ Err e → z ≡ number_of e → z ≡ refusal_in a
  header_refused e z q k = rw (← p, q) k

  pub header_field_lem : (n : ℕ) (h : ObjHeader) (z : ℕ) → r ≡ Ok h → z ≡ field_of n h → z ≡ header_field n a
  header_field_lem n h z q k = rw (← p, q) k

  pub header_none : (n : ℕ) (e : Refusal) → r ≡ Err e → 0 ≡ header_field n a
  header_none n e q = rw (← p, q)

-- an ill-formed part is no longer than the text, so 256 more fits
pub piece_fits : (b : List ℕ) (r : Piece) (n : ℕ) → r ≡ piece_of b → r ≡ IllFormed n → length b * 1 < 2 ^ 63 → Fits w64 (256 + n)
piece_fits b r n p q h =
    let k : n ≡ size_of (piece_of b) = sym (ap size_of q) ∙ ap size_of p in
    record { fits = omega (arith, size_within b) }

pub piece_shown : (b : List ℕ) (r x : Piece) (z : ℕ) → r ≡ piece_of b → r ≡ x → z ≡ piece_number x → z ≡ piece_number (piece_of b)
piece_shown b r x z p q h = rw (← p, q) h

pub ruleset all = (rules, number_refused, span_refused, header_taken, header_refused, header_field_lem, header_none, piece_fits, piece_shown)
