-- `layout::entry_at` takes the four numbers from their places.
use Rattle.layout.proofs.entry_at.Goals as goal

pub returns : goal.returns
returns c = cc
