-- `layout::finish` goes by the cases of its definition.
use Rattle.layout.specs.ContentsLaws.{ending_left, ending_right}
use Rattle.layout.proofs.finish.Goals as goal

pub returns-then-end-len : goal.returns-then-end-len
returns-then-end-len c = ending_left _ _ _ _ _ c.if-end-len.true

pub returns : goal.returns
returns c = ending_right _ _ _ _ _ c.if-end-len.false
