use Rattle.std.proofs.lemmas.Result.{err_from_is_err_and}
use borrow.Author.Rules.{rules}
use Rattle.text.proofs.Writing.{got, byte_stopped}
use Rattle.feed.proofs.Reading.{piece_got, piece_refused, piece_within, piece_less, pieces_end}
use Rattle.feed.proofs.pieces.put_pieces.Goals as goal

pub returns-in_err-n : goal.returns-in_err-n
returns-in_err-n c = let p = err_from_is_err_and c.from_residual.result c.from_residual.ensures.1 in rw (p.1, p.2) (byte_stopped _ _ _ _ _ c.in_err-n.was)

pub loop-rest-init : goal.loop-rest-init
loop-rest-init c = (got _ _ _ _ _ c.in_ok-n.was, search rules)

pub returns-in_err-n-2 : goal.returns-in_err-n-2
returns-in_err-n-2 c = let p = err_from_is_err_and c.from_residual-in_err-n-2.result c.from_residual-in_err-n-2.ensures.1 in rw (p.1, p.2) (piece_refused _ _ c.put_piece-w.ensures.0 _ _ _ _ c.loop-rest.invariant.0 _ _ c.put_piece-w.ensures.1 _ c.in_err-n-2.was)

pub slice_bounds-rest-count : goal.slice_bounds-rest-count
slice_bounds-rest-count c = search (rules, piece_within)

pub slice_bounds-rest-start : goal.slice_bounds-rest-start
slice_bounds-rest-start c = search (rules, piece_within)

pub loop-rest-smaller : goal.loop-rest-smaller
loop-rest-smaller c = search (rules, piece_less)

pub loop-rest-preserved : goal.loop-rest-preserved
loop-rest-preserved c = (piece_got _ _ c.put_piece-w.ensures.0 _ _ _ _ c.loop-rest.invariant.0 _ _ c.put_piece-w.ensures.1 _ c.in_ok-n-2.was, search rules)

pub returns : goal.returns
returns c = pieces_end _ _ _ _ _ (search rules) c.loop-rest.invariant.0
