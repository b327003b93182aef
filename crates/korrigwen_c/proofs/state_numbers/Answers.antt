-- `korrigwen_c::state_numbers` packs the numbers of the state.
use Rattle.std.proofs.Common.{ap}
use Rattle.korrigwen_c.specs.Numbers.{fourteen}
use Rattle.korrigwen_c.proofs.state_numbers.Goals as goal

pub returns : goal.returns
returns c = ap fourteen c.numbers_of.ensures
