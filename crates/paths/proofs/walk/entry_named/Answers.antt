use Rattle.lists.proofs.Reading.{list_no, list_passed}
use Rattle.paths.proofs.Directory.{entries_start, entries_end, entries_next, entries_done}
use Rattle.paths.proofs.walk.entry_named.Goals as goal

pub loop-e-init : goal.loop-e-init
loop-e-init c = entries_start _ _ _ _ _ _ _ _ c.none_yet-choice.ensures c.first-s.ensures.run

pub returns-in-Over : goal.returns-in-Over
returns-in-Over c =
    entries_done _ _ _ _ _ _ _ _ _ c.search-q.ensures c.name_rule-rule.ensures
    (entries_end _ _ _ _ _ _ _ _ _ c.entry_in.ensures _ _ c.loop-e.invariant _ c.in-Over.is c.settle.ensures)

pub returns-in-Refused : goal.returns-in-Refused
returns-in-Refused c =
    entries_done _ _ _ _ _ _ _ _ _ c.search-q.ensures c.name_rule-rule.ensures
    (list_no _ _ _ _ _ _ c.entry_in.ensures _ _ c.loop-e.invariant _ c.in-Refused.is)

pub loop-e-preserved-in-Passed : goal.loop-e-preserved-in-Passed
loop-e-preserved-in-Passed c = list_passed _ _ _ _ _ _ c.entry_in.ensures _ _ c.loop-e.invariant _ c.in-Passed.is c.next-s.ensures

pub loop-e-preserved : goal.loop-e-preserved
loop-e-preserved c = entries_next _ _ _ _ _ _ _ _ _ c.entry_in.ensures _ _ c.loop-e.invariant _ _ _ _ c.in-Element.is c.entry_name.ensures c.weigh-choice.ensures
