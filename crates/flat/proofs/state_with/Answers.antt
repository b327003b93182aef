-- `flat::state_with` takes the numbers apart: there are 14 if eight stand between the first three and the last three.
use Rattle.std.proofs.Common.{sym, ap, ◌∙◌, arith, ◌≡◌, ◌≢◌, length, Option, Some}
use Rattle.treetracker.specs.declared.State.{State}
use Rattle.flat.specs.FlatLaws.{some_next, no_next, length_not, kind_not, is_one, chunk_some, chunk_none}
use Rattle.flat.specs.FlatLaws.{between_threes, taken_apart}
use Rattle.flat.proofs.state_with.Goals as goal

pub returns-in_default : goal.returns-in_default
returns-in_default c = let h : length c.args.numbers.now ≢ 14 = λ e. omega arith in rw (length_not _ h)

pub returns-in_err-next : goal.returns-in_err-next
returns-in_err-next c = rw (c.from_residual.ensures, kind_not _ (no_next _ (sym c.next_of.ensures ∙ c.in_err-next.was)))

pub returns-in_err-chosen : goal.returns-in_err-chosen
returns-in_err-chosen c =
    let numbers = c.args.numbers.now in
    let other = chunk_none _ _ _ c.try_from.ensures.1 (sym c.ok.ensures.value ∙ c.in_err-chosen.was) in
    let h : length numbers ≢ 14 = λ e. other (omega (arith, between_threes numbers (omega arith))) in
    rw (c.from_residual-in_err-chosen.ensures, length_not _ h)

pub returns : goal.returns
returns c =
    let numbers = c.args.numbers.now in
    let (few, kind) = some_next _ _ (sym c.next_of.ensures ∙ c.in_ok-next.was) in
    let (eight, same) = chunk_some _ _ _ c.try_from.ensures.1 _ (sym c.ok.ensures.value ∙ c.in_ok-chosen.was) in
    let fourteen : length numbers ≡ 14 = omega (arith, between_threes numbers (omega arith)) in
    rw (is_one numbers fourteen few) (ap some (taken_apart _ _ _ fourteen kind same))
  where
    some : State → Option State
    some t = Some t
