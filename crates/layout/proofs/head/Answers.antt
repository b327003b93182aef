-- `layout::head` makes the tests of its definition in their order; each return cites the law of its outcome.
use Rattle.std.proofs.Common.{arith, sym, ◌∙◌, ap, ℕ, Ok, Result}
use Rattle.layout.specs.ContentsLaws.{head_length, head_tables, head_cut, head_kept, outside_false}
use Rattle.layout.specs.Contents.{is_outside}
use Rattle.layout.specs.declared.Refused.{Refused}
use Rattle.layout.proofs.head.Goals as goal

ok : ℕ → Result ℕ Refused
ok n = Ok n

pub returns-then-outside : goal.returns-then-outside
returns-then-outside c = head_length _ (sym c.outside.ensures ∙ c.if-outside.true)

pub returns-then-outside-2 : goal.returns-then-outside-2
returns-then-outside-2 c =
    let l = outside_false _ _ _ (sym c.outside.ensures ∙ c.if-outside.false) in
    head_tables _ l.0 l.1
    (ap (λ (n : ℕ). is_outside n 1 8) (sym c.number_at-k.ensures) ∙ sym c.outside-2.ensures ∙ c.if-outside-2.true)

pub overflow_mul-k : goal.overflow_mul-k
overflow_mul-k c = let k = outside_false _ _ _ (sym c.outside-2.ensures ∙ c.if-outside-2.false) in
    omega arith

pub overflow_add-k : goal.overflow_add-k
overflow_add-k c = let k = outside_false _ _ _ (sym c.outside-2.ensures ∙ c.if-outside-2.false) in
    omega arith

pub returns-then-s-k : goal.returns-then-s-k
returns-then-s-k c =
    let l = outside_false _ _ _ (sym c.outside.ensures ∙ c.if-outside.false) in
    let k = outside_false _ _ _ (sym c.outside-2.ensures ∙ c.if-outside-2.false) in
    head_cut _ l.0 l.1 (omega arith) (omega arith) (omega arith)

pub returns : goal.returns
unfolding ok
returns c =
    let l = outside_false _ _ _ (sym c.outside.ensures ∙ c.if-outside.false) in
    let k = outside_false _ _ _ (sym c.outside-2.ensures ∙ c.if-outside-2.false) in
    ap ok c.number_at-k.ensures
    ∙ head_kept _ l.0 l.1 (omega arith) (omega arith) (omega arith)
