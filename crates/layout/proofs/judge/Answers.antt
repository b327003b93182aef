-- `layout::judge` makes the tests of its definition in their order; each return cites the law of its outcome.
use Rattle.std.proofs.Common.{arith, rules, sym, ◌∙◌, ap, ℕ}
use Rattle.layout.specs.ContentsLaws.{outside_false, judged_columns, judged_fields, judged_rows, judged_offset, judged_body}
use Rattle.layout.specs.ContentsLaws.{judged_kept}
use Rattle.layout.specs.Contents.{is_outside}
use Rattle.layout.proofs.judge.Goals as goal

pub returns-then-misfit : goal.returns-then-misfit
returns-then-misfit c =
    judged_columns _ _ _
    (ap (λ (n : ℕ). is_outside n 1 16) (sym c.count-ones.ensures) ∙ sym c.outside-misfit.ensures ∙ c.if-misfit.true)

pub returns-then-e-ones : goal.returns-then-e-ones
returns-then-e-ones c =
    let outside = c.outside-misfit in
    let fit = outside_false _ _ _ (sym outside.ensures ∙ search rules) in
    judged_fields _ _ _ (omega arith) (omega arith) (omega arith)

pub returns-then-e-gt-MOST_ROWS : goal.returns-then-e-gt-MOST_ROWS
returns-then-e-gt-MOST_ROWS c =
    let if1 = c.if-misfit in
    let outside = c.outside-misfit in
    let fit = outside_false _ _ _ (sym outside.ensures ∙ if1.false) in
    judged_rows _ _ _ (omega arith) (omega arith) (omega arith) (omega arith)

pub returns-then-e-end : goal.returns-then-e-end
returns-then-e-end c =
    let outside = c.outside-misfit in
    let fit = outside_false _ _ _ (sym outside.ensures ∙ c.if-misfit.false) in
    judged_offset _ _ _ (omega arith) (omega arith) (omega arith) (omega arith) (omega arith)

pub body_size-requires : goal.body_size-requires
body_size-requires c =
    let outside = c.outside-misfit in
    let fit = outside_false _ _ _ (sym outside.ensures ∙ c.if-misfit.false) in
    (omega arith, omega arith)

pub returns-then-len-end : goal.returns-then-len-end
returns-then-len-end c =
    let outside = c.outside-misfit in
    let fit = outside_false _ _ _ (sym outside.ensures ∙ c.if-misfit.false) in
    judged_body _ _ _ (omega arith) (omega arith) (omega arith) (omega arith) (omega arith) (omega arith)

pub returns : goal.returns
returns c =
    let outside = c.outside-misfit in
    let fit = outside_false _ _ _ (sym outside.ensures ∙ c.if-misfit.false) in
    judged_kept _ _ _ (omega arith) (omega arith) (omega arith) (omega arith) (omega arith) (omega arith)
