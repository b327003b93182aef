-- `text::put_summary` lays its six parts one after the other.
use Rattle.std.proofs.Common.{arith}
use Rattle.text.specs.Text.{summary_text}
use Rattle.areas.specs.Written.{laid_then}
use Rattle.text.proofs.put_summary.Goals as goal

pub returns-clause-laid : goal.returns-clause-laid
unfolding summary_text
returns-clause-laid c =
    let two = laid_then (omega arith) c.put_stopped-at.ensures.laid c.put_count-at.ensures.laid in
    let three = laid_then (omega arith) two c.put_count-at-2.ensures.laid in
    let four = laid_then (omega arith) three c.put_count-at-3.ensures.laid in
    let five = laid_then (omega arith) four c.put_count-at-4.ensures.laid in
    laid_then (omega arith) five c.put_bytes.ensures
