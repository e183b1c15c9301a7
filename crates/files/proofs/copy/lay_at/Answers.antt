use Rattle.std.proofs.Common.{arith}
use Rattle.files.proofs.PasteLaws.{lay_put}
use Rattle.files.proofs.copy.lay_at.Goals as goal

pub returns : goal.returns
returns c = lay_put _ _ _ _ _ _ _ c.requires.1 c.max-a.ensures c.min-b.ensures (omega arith) (λ q. omega arith) c.block_size.ensures (omega arith) _ _ _ (omega arith) (omega arith) c.copy.ensures
