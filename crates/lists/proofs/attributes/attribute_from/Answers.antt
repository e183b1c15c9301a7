use Rattle.lists.proofs.Reading.{less_at, less_passed, list_no, list_passed}
use Rattle.lists.proofs.Laws.{place_start, place_over, place_more, place_here}
use Rattle.lists.proofs.Turns.{turns, attribute_search}
use mathlib.Core.Path.{◌≡◌}
use Rattle.lists.proofs.attributes.attribute_from.Goals as goal

pub loop-e-init : goal.loop-e-init
loop-e-init c = search turns

pub returns-in-Over : goal.returns-in-Over
returns-in-Over c = attribute_search _ _ _ _ _ _ _ _ c.search-q.ensures (place_over _ _ _ _ _ _ c.attribute_in.ensures _ _ _ c.loop-e.invariant c.in-Over.is)

pub returns-in-Refused : goal.returns-in-Refused
returns-in-Refused c = attribute_search _ _ _ _ _ _ _ _ c.search-q.ensures (list_no _ _ _ _ _ _ c.attribute_in.ensures _ _ c.loop-e.invariant _ c.in-Refused.is)

pub loop-e-smaller-in-Passed : goal.loop-e-smaller-in-Passed
loop-e-smaller-in-Passed c = search turns

pub loop-e-preserved-in-Passed : goal.loop-e-preserved-in-Passed
loop-e-preserved-in-Passed c = search turns

pub loop-e-smaller-then-left-gt0 : goal.loop-e-smaller-then-left-gt0
loop-e-smaller-then-left-gt0 c = search turns

pub loop-e-preserved-then-left-gt0 : goal.loop-e-preserved-then-left-gt0
loop-e-preserved-then-left-gt0 c = search turns

pub loop-e-smaller : goal.loop-e-smaller
loop-e-smaller c = search turns

pub loop-e-preserved : goal.loop-e-preserved
loop-e-preserved c = rw c.or-kept.ensures (search turns)
