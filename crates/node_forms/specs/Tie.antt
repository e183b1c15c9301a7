-- What a listing goes through is what it says: the text of its course and how that ends are those of demand's `trace`, so that its nodes (forms,
-- specs/Course.antt) are those of the listing that is promised. Document 02, request 06.
use Rattle.std.specs.Prelude.{ℕ, ◌≡◌, List}
use Rattle.volume.specs.declared.Volume.{Volume}
use Rattle.demand.specs.Listing.{trace}
use Rattle.demand.specs.Demand.{view_of}
use Rattle.forms.specs.Course.{course_of, trace_in}

pub record Tied : Type 0 where
  pub course : (image : List ℕ) (v : Volume) → trace_in (course_of image v) ≡ trace (view_of image v)
