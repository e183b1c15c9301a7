use Rattle.links.proofs.Pouring.{stream_end, stream_no, stream_done}
use Rattle.links.proofs.pour.push_stream.Goals as goal

pub returns-in-Over : goal.returns-in-Over
returns-in-Over c = λ xs. stream_done _ _ _ _ _ _ xs _ c.args.v _ _ _ _ c.search-q.ensures (stream_end _ _ _ _ _ _ _ _ _ _ _ _ _ _ _ c.loop-out.invariant.0 _ c.extent_in.ensures _ _ _ xs c.in-Over.is c.saturating_sub.ensures c.feed_zeros.ensures)

pub returns-in-Refused : goal.returns-in-Refused
returns-in-Refused c = λ xs. stream_done _ _ _ _ _ _ xs _ c.args.v _ _ _ _ c.search-q.ensures (stream_no _ _ _ _ _ _ _ _ _ _ _ _ _ _ _ c.loop-out.invariant.0 _ c.extent_in.ensures _ xs c.in-Refused.is)
