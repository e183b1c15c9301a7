-- What the calls give together: parts that come one after the other read as one text, wherever a character is cut.
use Prim.Native.Nat.{ℕ}
use mathlib.Core.Path.{◌≡◌, refl, ◌∙◌}
use mathlib.Core.Bool.{Bool, true, false}
use mathlib.Core.List.{List, [], ◌∷◌, ◌++◌, append-nil}
use lib.ListN.{replicate}
use Rattle.error.specs.Answer.{if_le, if_eq, Answer, Ok}
use Rattle.byte_fields.specs.Part.{up_to_zero}
use Rattle.utf8.specs.Text.{if_in, rest_of, agree, piece_of, lossy_in, lossy, replaced_in, replaced}
use Rattle.text.specs.Output.{Output, at, output_of, put, puts}
use Rattle.feed.specs.Fed.{written_as, fed, begun}
use Rattle.feed.specs.declared.feed.Feed.{Feed}

-- `begin`, two calls of `push_all`, and `finish`, from what each ensures
parts_as_one : (marks : Bool) (room : ℕ) (p : Answer ℕ) (f g h : Feed) (o q r a b : List ℕ) (z : Output) → ((m : ℕ) (c xs : List ℕ) → fed m f c xs ≡ begun marks m p c xs)
    → ((xs : List ℕ) → fed room g q xs ≡ fed room f o (a ++ xs)) → ((xs : List ℕ) → fed room h r xs ≡ fed room g q (b ++ xs)) → z ≡ fed room h r []
    → z ≡ puts room (written_as marks (up_to_zero (a ++ b))) (output_of p o)
unfolding begun
parts_as_one marks room p f g h o q r a b z s t u e = e ∙ u [] ∙ rw (append-nil b) (t b ∙ s room o (a ++ b))

-- a character of three bytes, and nothing of what follows the zero byte
euro : begun false 5 (Ok 0) (replicate 5 0) (65 ∷ 0xE2 ∷ 0x82 ∷ 0xAC ∷ 0 ∷ 66 ∷ []) ≡ at (65 ∷ 0xE2 ∷ 0x82 ∷ 0xAC ∷ 0 ∷ []) 4
unfolding begun written_as up_to_zero lossy lossy_in piece_of rest_of agree if_in if_le if_eq puts put
euro = refl

-- one that the zero byte cuts short is replaced
cut : begun false 5 (Ok 0) (replicate 5 0) (65 ∷ 0xE2 ∷ 0x82 ∷ 0 ∷ 0xAC ∷ []) ≡ at (65 ∷ 0xEF ∷ 0xBF ∷ 0xBD ∷ 0 ∷ []) 4
unfolding begun written_as up_to_zero lossy lossy_in piece_of rest_of agree if_in if_le if_eq puts put
cut = refl

-- and marked
marked : begun true 5 (Ok 0) (replicate 5 7) (65 ∷ 0xE2 ∷ 0x82 ∷ 0 ∷ 0xAC ∷ []) ≡ at (0 ∷ 7 ∷ 7 ∷ 7 ∷ 7 ∷ []) 1
unfolding begun written_as up_to_zero replaced replaced_in piece_of rest_of agree if_in if_le if_eq puts put
marked = refl
