-- `layout::plan_of` takes the eight bytes from their places.
use Rattle.std.proofs.Common.{◌∙◌}
use Rattle.layout.specs.ContentsLaws.{plan_there}
use Rattle.layout.proofs.plan_of.Goals as goal

pub returns : goal.returns
returns c = c.copy_from_slice.ensures.after ∙ plan_there _ c.requires
