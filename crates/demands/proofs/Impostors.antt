-- The impostor of document 01 that makes up a lookup figure: what the figure of W is, and that one made up to fit the bound is
-- another. The statements are definitions of specs/Impostors.antt, and their proofs stand here, so that an edit of a statement is
-- refused for what it says.
use Rattle.std.specs.Prelude.{ℕ, ◌+◌, ◌-◌, ◌*◌, List}
use Rattle.std.proofs.Common.{ap, ◌∙◌, arith}
use Rattle.rows.specs.Rows.{positions_in}
use Rattle.runs.specs.Run.{marked_in}
use Rattle.runs.specs.Procedure.{Core}
use Rattle.join.specs.Calls.{Call, Runner}
use Rattle.demands.specs.Files.{job_w}
use Rattle.demands.specs.Impostors.{computed, KeepsStep, is_step, OwnFigure, MadeUpFigure}

module _ (run : Runner) (keeps : KeepsStep run) (cs : List Call) where
  pub own_figure : OwnFigure run keeps cs
  own_figure e = ap (λ (c : Core). c.state.lookups) (is_step run keeps cs 12 e) ∙ computed.lookups

  pub made_up_figure : MadeUpFigure run keeps cs
  made_up_figure e h =
      let five = own_figure e in
      let allowed : Core → ℕ = λ c.
      ((positions_in job_w).k - 1) * (c.state.records + marked_in c.marks (positions_in job_w).total) in
      let six = ap allowed (is_step run keeps cs 12 e) ∙ computed.bound in
      omega arith
