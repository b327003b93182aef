-- `text::put_number` lays the digits that `io::decimal` gives; ten suffice at 32 bits.
use Rattle.std.proofs.Common.{arith}
use Rattle.text.specs.DecimalLaws.{decimal_length}
use Rattle.text.proofs.put_number.Goals as goal

pub put_bytes-requires : goal.put_bytes-requires
put_bytes-requires c =
    omega (arith, decimal_length _ _ _ (omega arith) c.decimal-k.ensures.len c.decimal-k.ensures.digits)

pub returns-clause-upper_bound : goal.returns-clause-upper_bound
returns-clause-upper_bound c =
    omega (arith, decimal_length _ _ _ (omega arith) c.decimal-k.ensures.len c.decimal-k.ensures.digits)
