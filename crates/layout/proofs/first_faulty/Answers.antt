-- `layout::first_faulty` is the search of its definition.
use Rattle.std.proofs.Common.{rules, tests}
use Rattle.search.specs.FindLaws.{find_from_zero}
use Rattle.layout.specs.Contents.{faulty_byte}
use Rattle.layout.proofs.first_faulty.Goals as goal

pub returns : goal.returns
returns c =
    find_from_zero _ _ _ _ (faulty_byte c.args.plan c.args.k) c.find.ensures.ran
    (λ x q k. search (rules, tests)) (λ x q k. search (rules, tests))
