use borrow.Author.Rules.{rules}
use Rattle.feed.proofs.Feeding.{piece_short}
use Rattle.feed.proofs.feed.make_room.Goals as goal

pub without-requires : goal.without-requires
without-requires c = search (rules, piece_short)
