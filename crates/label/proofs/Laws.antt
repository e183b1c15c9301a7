-- A label is a name that is read in a part of a block.
use Prim.Native.Nat.{ℕ}
use mathlib.Core.Path.{◌≡◌}
use mathlib.Core.List.{List}
use borrow.Author.Rules.{rules}
use Rattle.utf8.specs.Text.{replaced}
use Rattle.byte_fields.proofs.Laws.{name_part}

-- the number of the bytes x, which are those of the label
pub number_of : (x l : List ℕ) (n : ℕ) → x ≡ l → n ≡ replaced x → n ≡ replaced l
number_of x l n e h = rw e at h

pub ruleset all = (rules, name_part, number_of)
