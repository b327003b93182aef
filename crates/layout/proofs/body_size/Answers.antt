-- `layout::body_size` does not wrap: both factors are limited.
use Rattle.std.proofs.Common.{arith, mul-le-mul}
use Rattle.layout.proofs.body_size.Goals as goal

pub overflow_mul-result : goal.overflow_mul-result
overflow_mul-result c = omega (arith, mul-le-mul c.requires.0 c.requires.1)

pub overflow_mul-result-2 : goal.overflow_mul-result-2
overflow_mul-result-2 c = omega (arith, mul-le-mul c.requires.0 c.requires.1)

pub overflow_cast-result : goal.overflow_cast-result
overflow_cast-result c = omega (arith, mul-le-mul c.requires.0 c.requires.1)

pub returns : goal.returns
returns c = omega (arith, mul-le-mul c.requires.0 c.requires.1)
