use Rattle.std.proofs.Common.{refl}
use Rattle.text.proofs.Writing.{then_literal}
use Rattle.container_line.specs.Container.{container_head}
use Rattle.container_line.proofs.Lines.{then_word}
use Rattle.container_line.proofs.put_head.Goals as goal

pub returns : goal.returns
unfolding container_head
returns c =
    then_literal _ _ _ _ _ _ c.put_all-a.ensures refl
    (then_word _ _ _ _ _ _ c.put_word-b.ensures
    (then_word _ _ _ _ _ _ c.put_word-c.ensures c.put_word.ensures))
