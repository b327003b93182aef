-- `korrigwen::run_job`: the table has room for the texts of a file of 65,535 bytes.
use Rattle.std.proofs.Common.{arith, length, ◌≤◌, []}
use Rattle.lines.specs.LineLaws.{job_short}
use Rattle.korrigwen.proofs.run_job.Goals as goal

pub put_texts-requires : goal.put_texts-requires
put_texts-requires c =
    let l : length c.args.file.now ≤ 65535 = job_short _ _ [] c.requires in
    (omega arith, omega arith)
