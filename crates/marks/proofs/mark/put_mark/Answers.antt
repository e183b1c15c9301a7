use Rattle.marks.proofs.Kept.{mark_put}
use Rattle.marks.proofs.mark.put_mark.Goals as goal

pub returns : goal.returns
returns c =
    mark_put _ _ _ _ _ _ _
    c.put_little.ensures
    c.put_little-2.ensures
    c.put_little-3.ensures
    c.put_little-4.ensures
    c.put_little-5.ensures
    c.requires
