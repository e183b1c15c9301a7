-- What the loops over a list have read; no promise to a caller rests on it.
use Rattle.std.specs.Prelude.{ℕ, zero, suc, List, [], ◌∷◌}
use Rattle.std.specs.Prelude.{Option, None, Some}
use Rattle.error.specs.Answer.{Answer, Ok, Err, ◌>>=◌}
use Rattle.btree.specs.Scan.{Run, more, end, refused}
use Rattle.node.specs.declared.place.Place.{Place}

-- the elements of a run that can be read, up to the first that can't; of a list without a fault they are the list (`listed`, proofs/Reading.antt)
abbrev pub read_then : {A : Type 0} → Answer A → List A → List A
read_then (Ok x) xs = x ∷ xs
read_then (Err e) xs = []

unfoldable pub readable : {A : Type 0} → (Place → Answer A) → Run → List A
readable f (more p s r) = read_then (f p) (readable f r)
readable f (end s) = []
readable f (refused e s) = []
