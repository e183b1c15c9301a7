use mathlib.Core.Path.{refl}
use native.Mathlib.Omega.{arith}
use Rattle.utf8.proofs.Pieces.{inside, below, beyond}
use Rattle.unicode_forms.specs.Data.{any_in}
use Rattle.keys.proofs.ranges.is_covered.Statement.{statement}
use Rattle.keys.proofs.ranges.is_covered.Tie as tie

pub is_covered_spec : {M : Type 1} → statement M
unfolding any_in
is_covered_spec =
    tie.close
    (tie.spec
    (λ c. inside _ _ _ _ _ _ (omega arith) (omega arith) refl)
    (λ c. beyond _ _ _ _ _ _ (omega arith) (omega arith) (below _ _ _ _ _ _ (omega arith) (below _ _ _ _ _ _ (omega arith) (below _ _ _ _ _ _ (omega arith) (below _ _ _ _ _ _ (omega arith) (below _ _ _ _ _ _ (omega arith) (below _ _ _ _ _ _ (omega arith) refl)))))))
    (λ c. beyond _ _ _ _ _ _ (omega arith) (omega arith) (inside _ _ _ _ _ _ (omega arith) (omega arith) refl))
    (λ c. beyond _ _ _ _ _ _ (omega arith) (omega arith) (beyond _ _ _ _ _ _ (omega arith) (omega arith) (below _ _ _ _ _ _ (omega arith) (below _ _ _ _ _ _ (omega arith) (below _ _ _ _ _ _ (omega arith) (below _ _ _ _ _ _ (omega arith) (below _ _ _ _ _ _ (omega arith) refl)))))))
    (λ c. beyond _ _ _ _ _ _ (omega arith) (omega arith) (beyond _ _ _ _ _ _ (omega arith) (omega arith) (inside _ _ _ _ _ _ (omega arith) (omega arith) refl)))
    (λ c. beyond _ _ _ _ _ _ (omega arith) (omega arith) (beyond _ _ _ _ _ _ (omega arith) (omega arith) (beyond _ _ _ _ _ _ (omega arith) (omega arith) (below _ _ _ _ _ _ (omega arith) (below _ _ _ _ _ _ (omega arith) (below _ _ _ _ _ _ (omega arith) (below _ _ _ _ _ _ (omega arith) refl)))))))
    (λ c. beyond _ _ _ _ _ _ (omega arith) (omega arith) (beyond _ _ _ _ _ _ (omega arith) (omega arith) (beyond _ _ _ _ _ _ (omega arith) (omega arith) (inside _ _ _ _ _ _ (omega arith) (omega arith) refl))))
    (λ c. beyond _ _ _ _ _ _ (omega arith) (omega arith) (beyond _ _ _ _ _ _ (omega arith) (omega arith) (beyond _ _ _ _ _ _ (omega arith) (omega arith) (beyond _ _ _ _ _ _ (omega arith) (omega arith) (below _ _ _ _ _ _ (omega arith) (below _ _ _ _ _ _ (omega arith) (below _ _ _ _ _ _ (omega arith) refl)))))))
    (λ c. beyond _ _ _ _ _ _ (omega arith) (omega arith) (beyond _ _ _ _ _ _ (omega arith) (omega arith) (beyond _ _ _ _ _ _ (omega arith) (omega arith) (beyond _ _ _ _ _ _ (omega arith) (omega arith) (inside _ _ _ _ _ _ (omega arith) (omega arith) refl)))))
    (λ c. beyond _ _ _ _ _ _ (omega arith) (omega arith) (beyond _ _ _ _ _ _ (omega arith) (omega arith) (beyond _ _ _ _ _ _ (omega arith) (omega arith) (beyond _ _ _ _ _ _ (omega arith) (omega arith) (beyond _ _ _ _ _ _ (omega arith) (omega arith) (below _ _ _ _ _ _ (omega arith) (below _ _ _ _ _ _ (omega arith) refl)))))))
    (λ c. beyond _ _ _ _ _ _ (omega arith) (omega arith) (beyond _ _ _ _ _ _ (omega arith) (omega arith) (beyond _ _ _ _ _ _ (omega arith) (omega arith) (beyond _ _ _ _ _ _ (omega arith) (omega arith) (beyond _ _ _ _ _ _ (omega arith) (omega arith) (inside _ _ _ _ _ _ (omega arith) (omega arith) refl))))))
    (λ c. beyond _ _ _ _ _ _ (omega arith) (omega arith) (beyond _ _ _ _ _ _ (omega arith) (omega arith) (beyond _ _ _ _ _ _ (omega arith) (omega arith) (beyond _ _ _ _ _ _ (omega arith) (omega arith) (beyond _ _ _ _ _ _ (omega arith) (omega arith) (beyond _ _ _ _ _ _ (omega arith) (omega arith) (below _ _ _ _ _ _ (omega arith) refl)))))))
    (λ c. beyond _ _ _ _ _ _ (omega arith) (omega arith) (beyond _ _ _ _ _ _ (omega arith) (omega arith) (beyond _ _ _ _ _ _ (omega arith) (omega arith) (beyond _ _ _ _ _ _ (omega arith) (omega arith) (beyond _ _ _ _ _ _ (omega arith) (omega arith) (beyond _ _ _ _ _ _ (omega arith) (omega arith) (inside _ _ _ _ _ _ (omega arith) (omega arith) refl)))))))
    (λ c. beyond _ _ _ _ _ _ (omega arith) (omega arith) (beyond _ _ _ _ _ _ (omega arith) (omega arith) (beyond _ _ _ _ _ _ (omega arith) (omega arith) (beyond _ _ _ _ _ _ (omega arith) (omega arith) (beyond _ _ _ _ _ _ (omega arith) (omega arith) (beyond _ _ _ _ _ _ (omega arith) (omega arith) (beyond _ _ _ _ _ _ (omega arith) (omega arith) refl))))))))
