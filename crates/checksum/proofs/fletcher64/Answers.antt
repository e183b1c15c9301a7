use Rattle.std.proofs.Common.{◌*◌, ◌/◌, ◌%◌, arith}
use Rattle.checksum.proofs.Laws.{carried_reduced, chunk, chunks_done}
use Rattle.checksum.proofs.fletcher64.Goals as goal

pub add_eights-s-requires : goal.add_eights-s-requires
add_eights-s-requires c = (omega arith, omega arith, carried_reduced _ _ _ c.loop-chunk.invariant)

pub loop-chunk-preserved : goal.loop-chunk-preserved
loop-chunk-preserved c =
    chunk _ _ _ _ (8 * c.min.result) _ _ c.loop-chunk.invariant (omega arith) c.add_eights-s.ensures (omega arith)

pub add_words-requires : goal.add_words-requires
add_words-requires c = (omega arith, omega arith, carried_reduced _ _ _ c.loop-chunk.invariant)

pub returns : goal.returns
returns c =
    let w = c.saturating_sub-words.result in
    chunks_done _ _ (w / 4) (chunk _ _ _ _ (w / 4 % 8) _ _ c.loop-chunk.invariant (omega arith) c.add_words.ensures (omega arith)) (omega arith)
