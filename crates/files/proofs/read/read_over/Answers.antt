use Rattle.std.proofs.Common.{rules, arith}
use Rattle.files.proofs.FileLaws.{call_ready}
use Rattle.files.proofs.read.read_over.Goals as goal

pub fill-requires : goal.fill-requires
fill-requires c = call_ready _ _ _ _ _ _ _ _ c.wanted-n.ensures c.stop_of.ensures c.judge-j.result c.judge-j.ensures (search rules) (λ z. omega arith) (omega arith)
