-- the entries that are left give the whole answer
use Rattle.std.proofs.Common.{◌≡◌, ◌-◌}
use Rattle.gpt.specs.Table.{entry_in}
use Rattle.gpt.proofs.small.SmallImage.entry_in.Given as goal

abbrev pub invariant-loop-i : goal.invariant-loop-i
invariant-loop-i l = entry_in l.self.bytes.now l.t (l.t.count - l.i) l.i ≡ entry_in l.self.bytes.now l.t l.t.count 0
