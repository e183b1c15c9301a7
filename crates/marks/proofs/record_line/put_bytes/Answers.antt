use Rattle.std.proofs.Common.{refl}
use Rattle.text.proofs.Writing.{then_literal}
use Rattle.marks.proofs.record_line.put_bytes.Goals as goal

pub returns : goal.returns
returns c = then_literal _ _ _ _ _ _ c.put_all-a.ensures refl c.put_hex.ensures
