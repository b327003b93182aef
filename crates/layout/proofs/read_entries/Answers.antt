use Rattle.std.proofs.Common.{arith, sym, ap, ◌∙◌, refl, length-set, Result, Err}
use native.Mathlib.Nat.{sub-zero}
use Rattle.std.proofs.lemmas.Result.{err_from_is_err_and}
use Rattle.layout.specs.ContentsLaws.{placed_ok, placed_err, judged_right, entries_go, entries_stop, entries_end}
use Rattle.layout.specs.declared.Refused.{Refused}
use Rattle.layout.specs.declared.Contents.{Contents}
use Rattle.layout.proofs.read_entries.Goals as goal

pub loop-i-init : goal.loop-i-init
loop-i-init c = (rw sub-zero, omega arith, refl)

pub returns-in_err-entry : goal.returns-in_err-entry
returns-in_err-entry c =
    let r = placed_err _ _ _ (sym c.in_err-entry.was ∙ c.read_entry.ensures) in
    let p = err_from_is_err_and _ c.from_residual.ensures.1 in
    p.1 ∙ ap err (p.2 ∙ r.2) ∙ sym (entries_stop _ _ _ _ _ _ _ (omega arith) r.1) ∙ c.loop-i.invariant.0
  where
    err : Refused → Result Contents Refused
    err x = Err x

pub body_size-size-requires : goal.body_size-size-requires
body_size-size-requires c =
    let right = judged_right _ _ _ _ (sym (placed_ok _ _ _ (sym c.in_ok-entry.was ∙ c.read_entry.ensures))) in
    (omega arith, right.kept.rows)

pub overflow_add-end-in-loop-i : goal.overflow_add-end-in-loop-i
overflow_add-end-in-loop-i c = omega arith

pub loop-i-preserved : goal.loop-i-preserved
loop-i-preserved c =
    let read = placed_ok _ _ _ (sym c.in_ok-entry.was ∙ c.read_entry.ensures) in
    let right = judged_right _ _ _ _ (sym read) in (
      sym (entries_go _ _ _ _ _ _ _ _ c.body_size-size.ensures.0 (omega arith) read) ∙ c.loop-i.invariant.0,
      omega arith,
      simp length-set c.loop-i.invariant.2,
    )

pub returns : goal.returns
returns c = c.finish.ensures ∙ sym (entries_end _ _ _ _ _ _ (omega arith)) ∙ c.loop-i.invariant.0
