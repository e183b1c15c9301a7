-- The request's example: U+FFFD that was typed, and a damaged byte that reads alike.
use mathlib.Core.Path.{◌≡◌, refl}
use mathlib.Core.List.{[], ◌∷◌}
use Rattle.error.specs.Answer.{if_le, if_eq}
use Rattle.utf8.specs.Text.{if_in, rest_of, agree, piece_of, lossy_in, lossy, replaced_in, replaced}

typed : replaced (0xEF ∷ 0xBF ∷ 0xBD ∷ []) ≡ 0
unfolding replaced replaced_in piece_of rest_of agree if_in if_le if_eq
typed = refl

damaged : replaced (0xFF ∷ []) ≡ 1
unfolding replaced replaced_in piece_of rest_of agree if_in if_le if_eq
damaged = refl

alike : lossy (0xEF ∷ 0xBF ∷ 0xBD ∷ []) ≡ lossy (0xFF ∷ [])
unfolding lossy lossy_in piece_of rest_of agree if_in if_le if_eq
alike = refl
