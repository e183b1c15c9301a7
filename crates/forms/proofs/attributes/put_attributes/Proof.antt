use borrow.Author.Rules.{rules}
use mathlib.Core.Path.{◌≡◌}
use lib.ListN.{length}
use Rattle.cursor.specs.Left.{run_at}
use Rattle.cursor.proofs.Through.{rest}
use Rattle.records.specs.Attribute.{attribute_at}
use Rattle.lists.specs.Inner.{readable}
use Rattle.forms.specs.Course.{attribute_courses}
use Rattle.forms.specs.Inner.{stand_of, go}
use Rattle.forms.proofs.Walking.{walks, attributes_next}
use Rattle.forms.proofs.attributes.put_attributes.Statement.{statement}
use Rattle.forms.proofs.attributes.put_attributes.Tie as tie

abbrev invariant-loop : tie.invariant-loop-o
invariant-loop out₀ room image v id q keys o₀ s₀ i₀ out o s i = (go room (attribute_courses image v (readable (attribute_at q.keys.reader image) (run_at image q s i))) (stand_of o out) ≡ go room (attribute_courses image v (readable (attribute_at q.keys.reader image) (run_at image q s₀ i₀))) (stand_of o₀ out₀)) × (length out ≡ length out₀)

abbrev decreases-loop : tie.decreases-loop-o
decreases-loop out₀ room image v id q keys o₀ s₀ i₀ out o s i = rest image q s i

pub put_attributes_spec : {M : Type 1} → statement M
put_attributes_spec =
    tie.close
    (tie.spec
    invariant-loop
    decreases-loop
    (λ c κs. search walks)
    (λ c. search walks)
    (λ c. search walks)
    (λ c. search walks)
    (λ c. search walks)
    (λ c. search walks)
    (λ c κs. search walks)
    (λ c. search walks)
    (λ c. search walks)
    (λ c. search walks)
    (λ c. search walks)
    (λ c. search walks)
    (λ c. search walks)
    (λ c. search walks)
    (λ c κs. search walks)
    (λ c. search walks)
    (λ c. search walks)
    (λ c. search walks)
    (λ c κs. search walks)
    (λ c. search walks)
    (λ c. (attributes_next _ _ c.args.v _ _ _ _ _ c.loop-o.invariant.0 _ c.attribute_in.ensures _ _ _ (search rules) c.put_attribute-o.ensures, search rules)))
