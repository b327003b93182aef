-- `Accepted::width`: an accepted job has a table.
use Rattle.std.proofs.Common.{rules, []}
use Rattle.lines.specs.Lines.{JobOf}
use Rattle.lines.specs.LineLaws.{job_sound}
use Rattle.lines.proofs.Accepted.width.Goals as goal

pub returns-clause-lower_bound : goal.returns-clause-lower_bound
returns-clause-lower_bound c =
    let own : JobOf c.args.self.now.table.file.now c.args.self.now.g = search rules in (job_sound _ _ [] own).some
