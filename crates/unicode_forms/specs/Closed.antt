-- "Prove a single time for all ranges that what decomposing gives lies in them and decomposes no further, and that what lowering gives lies in them and
-- lowers no further" (request 07): what that says. It is proved, as `closed`, in proofs/Closed.antt.
use Rattle.std.specs.Prelude.{ℕ, ◌≡◌, true, List, [], ◌∷◌}
use Rattle.unicode_forms.specs.Data.{covered, decompose, lower}

-- each character of a list lies in the ranges, and f gives it as it is
abbrev pub Settled : (ℕ → List ℕ) → List ℕ → Type 0
Settled f [] = Unit
Settled f (d ∷ ds) = (covered d ≡ true) × (f d ≡ d ∷ []) × Settled f ds

pub record Closed (c : ℕ) : Type 0 where
  pub decomposed : Settled decompose (decompose c)
  pub lowered : Settled lower (lower c)

abbrev pub ClosedRanges : Type 0
ClosedRanges = (c : ℕ) → covered c ≡ true → Closed c
