-- `image::laid_out` meets its contract. Each part ends past its place, so fewer bytes of the parts are left.
use Rattle.std.proofs.Common.{◌≡◌, ◌-◌, length, rules}
use Rattle.cases.proofs.image.laid_out.Statement.{statement}
use Rattle.cases.proofs.image.laid_out.Tie as tie

abbrev invariant-loop : tie.invariant-loop-from
invariant-loop parts image₀ from₀ to₀ image from to = length image ≡ length image₀

abbrev decreases-loop : tie.decreases-loop-from
decreases-loop parts image₀ from₀ to₀ image from to = length parts - from

pub laid_out_spec : {M : Type 1} → statement M
laid_out_spec =
    tie.close
    (tie.spec
    invariant-loop
    decreases-loop
    (λ c. search rules)
    (λ c κs. search rules)
    (λ c. search rules)
    (λ c. search rules)
    (λ c. search rules)
    (λ c. search rules)
    (λ c. search rules)
    (λ c. search rules))
