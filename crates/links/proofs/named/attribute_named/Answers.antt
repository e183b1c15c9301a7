use Rattle.links.proofs.Names.{name_next, kept_now, kept_before, kept_still}
use Rattle.links.proofs.named.attribute_named.Goals as goal
use Rattle.links.proofs.named.attribute_named.Goals.{else-is_none-via-then-is_none+else-has_name, else-is_none-via-else-is_none}

pub loop-kept-preserved-then-has_name : goal.loop-kept-preserved-then-has_name
loop-kept-preserved-then-has_name c = name_next _ _ _ _ _ _ _ _ c.attribute_in.ensures _ _ c.loop-kept.invariant _ _ _ c.in-Element.is (kept_now _ _ _ _ _ _ _ c.is_none.ensures c.if-is_none.true c.has_name.ensures c.if-has_name.true)

pub loop-kept-preserved : goal.loop-kept-preserved
loop-kept-preserved c =
    elim c.else-is_none.branch [ else-is_none-via-then-is_none+else-has_name w ↦ name_next _ _ _ _ _ _ _ _ c.attribute_in.ensures _ _ c.loop-kept.invariant _ _ _ c.in-Element.is (kept_still _ _ _ _ _ _ w.has_name.ensures w.if-has_name.false) | else-is_none-via-else-is_none w ↦ name_next _ _ _ _ _ _ _ _ c.attribute_in.ensures _ _ c.loop-kept.invariant _ _ _ c.in-Element.is (kept_before _ _ _ _ _ _ c.is_none.ensures w.if-is_none.false) ]
