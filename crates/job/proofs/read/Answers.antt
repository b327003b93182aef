-- `job::read` goes on after the contents and after the parents, as its definition does.
use Rattle.std.proofs.Common.{sym, ◌∙◌, ap, ◌≡◌, ◌≤◌, List, ℕ, Ok, Err, Result}
use Rattle.std.proofs.lemmas.Result.{err_from_is_err_and, IfOk-at_ok}
use Rattle.layout.specs.declared.Contents.{Contents}
use Rattle.layout.specs.declared.Refused.{Refused}
use Rattle.layout.specs.Contents.{contents_of}
use Rattle.layout.specs.ContentsLaws.{contents_few}
use Rattle.plan.specs.Parents.{parents_of}
use Rattle.job.specs.declared.Job.{Job}
use Rattle.job.specs.Read.{read_answer, plan_parents}
use Rattle.job.specs.ReadLaws.{read_refused, read_lacking, read_accepted}
use Rattle.job.specs.Outcome.{masks_given}
use Rattle.job.proofs.read.Goals as goal
use Rattle.job.proofs.read.Goals.{After-parents_of}

-- the contents that were read, and what the search for their parents gave
contents_are : (c : After-parents_of) → contents_of c.args.file.now ≡ Ok c.in_ok-k.field-0
contents_are c = sym c.read_contents.ensures ∙ c.in_ok-k.was

parents_are : (c : After-parents_of) → plan_parents c.in_ok-k.field-0 ≡ c.parents_of.result
unfolding plan_parents
parents_are c =
    let contents = c.in_ok-k.field-0 in
    let masks = c.plan_masks.ensures ∙ masks_given _ _ (contents_are c) in
    sym (c.parents_of.ensures ∙ ap (λ (m : List ℕ). parents_of m contents.k) masks)

pub returns-in_err-k : goal.returns-in_err-k
unfolding read_answer
returns-in_err-k c =
    let p = err_from_is_err_and _ c.from_residual.ensures.1 in
    p.1 ∙ ap err p.2 ∙ read_refused _ _ (sym c.read_contents.ensures ∙ c.in_err-k.was)
  where
    err : Refused → Result Job Refused
    err x = Err x

pub parents_of-requires : goal.parents_of-requires
parents_of-requires c =
    IfOk-at_ok (λ (x : Contents). x.k ≤ 8) (sym c.read_contents.ensures ∙ c.in_ok-k.was) (contents_few c.args.file.now)

pub returns-in-Ok : goal.returns-in-Ok
unfolding read_answer
returns-in-Ok c =
    let at = (goal.at.returns-in-Ok c).After-parents_of in
    read_accepted _ _ _ (contents_are at) (parents_are at ∙ c.in-Ok.is)

pub returns-in-Err : goal.returns-in-Err
unfolding read_answer
returns-in-Err c =
    let at = (goal.at.returns-in-Err c).After-parents_of in
    read_lacking _ _ _ (contents_are at) (parents_are at ∙ c.in-Err.is)
