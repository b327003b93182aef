-- `korrigwen::answer` runs an accepted job with its own positions.
use Rattle.std.proofs.Common.{sym, ◌∙◌, ap, Ok, Result}
use Rattle.job.specs.declared.Job.{Job}
use Rattle.job.specs.Read.{job_of}
use Rattle.layout.specs.declared.Refused.{Refused}
use Rattle.rows.specs.Rows.{positions_of}
use Rattle.rows.specs.SoundLaws.{few_given}
use Rattle.korrigwen.proofs.answer.Goals as goal

pub positions_of-requires : goal.positions_of-requires
positions_of-requires c = few_given _ _ (sym c.read.ensures ∙ c.in_ok-job.was)

pub run_job-requires : goal.run_job-requires
run_job-requires c =
    let read = sym c.read.ensures ∙ c.in_ok-job.was in record {
      accepted = read ∙ ap again (sym read);
      positions = c.positions_of.ensures ∙ ap (λ (a : Result Job Refused). positions_of (job_of a)) (sym read);
    }
  where
    again : Result Job Refused → Result Job Refused
    again a = Ok (job_of a)
