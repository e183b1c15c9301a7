use Rattle.gpt.proofs.Finding.{entries_over, entry_found_lem}
use Rattle.gpt.proofs.small.SmallImage.entry_in.Goals as goal

pub returns-then-is_apfs : goal.returns-then-is_apfs
returns-then-is_apfs c =
    entry_found_lem _ _ _ _ c.loop-i.invariant c.loop-i-test.true _ c.is_apfs.ensures _ _ _ c.if-is_apfs.true c.eight.ensures c.eight-then-is_apfs.ensures c.place_of.ensures

pub returns : goal.returns
returns c = entries_over _ _ _ _ c.loop-i.invariant c.loop-i-test.false
