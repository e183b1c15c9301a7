-- What the code asks of some bytes at once. It needs no belief: `totals_in` promises `totals_of` alone.
use Rattle.std.specs.Prelude.{ℕ, Bool, true, false, List, [], ◌∷◌}
use Rattle.error.specs.Answer.{if_eq}

unfoldable pub has_lf : List ℕ → Bool
has_lf [] = false
has_lf (c ∷ x) = if_eq c 10 true (has_lf x)
