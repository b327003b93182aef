-- `layout::faulty` goes by the cases of its definition.
use Rattle.std.proofs.Common.{arith, ◌∙◌, refl}
use Rattle.search.specs.FindLaws.{any_from_zero}
use Rattle.layout.specs.ContentsLaws.{faulty_after, faulty_high, faulty_repeats}
use Rattle.layout.proofs.faulty.Goals as goal

pub returns-then-k-p : goal.returns-then-k-p
returns-then-k-p c = faulty_after _ _ _ c.if-k-p.true

pub returns-then-k-byte : goal.returns-then-k-byte
returns-then-k-byte c = faulty_high _ _ _ c.if-k-p.false c.if-k-byte.true

pub returns : goal.returns
returns c =
    c.contains.ensures.value
    ∙ any_from_zero _ c.args.plan c.args.p (omega arith) _ (λ q h. refl)
    ∙ faulty_repeats _ _ _ c.if-k-p.false c.if-k-byte.false
