-- `layout::outside` makes the two tests of its definition.
use Rattle.std.proofs.Common.{lt-ltb, le-ltb}
use Rattle.layout.specs.Contents.{is_outside}
use Rattle.layout.proofs.outside.Goals as goal

pub returns-then-n-least : goal.returns-then-n-least
unfolding is_outside
returns-then-n-least c = rw (lt-ltb _ _ c.if-n-least.true)

pub returns-else-n-least : goal.returns-else-n-least
unfolding is_outside
returns-else-n-least c = rw (le-ltb _ _ c.if-n-least.false)
