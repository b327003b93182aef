-- `Accepted::put_record` lays the values at the record's places, which are its joined values.
use Rattle.std.proofs.Common.{rules, sym, ◌∙◌, ap, map}
use Rattle.areas.specs.Written.{laid_as}
use Rattle.numbers.specs.Numbers.{value_at}
use Rattle.rows.specs.Sound.{Sound}
use Rattle.text.specs.Text.{line_text}
use Rattle.lines.specs.Lines.{JobOf}
use Rattle.lines.specs.LineLaws.{text_in_lem, job_sound, line_places, line_placed}
use Rattle.lines.proofs.Accepted.put_record.Goals as goal
use Rattle.lines.proofs.Accepted.put_record.Goals.{Start}

-- what the type says of the job
job_of : (e : Start) → JobOf e.args.self.now.table.file.now e.args.self.now.g
job_of e = search rules

sound : (e : Start) → Sound e.args.self.now.g
sound e = job_sound e.args.self.now.table.file.now _ e.args.chosen.now (job_of e)

pub in_range-requires : goal.in_range-requires
in_range-requires c = (sound (goal.at.in_range-requires c).Start).few

pub places_of-places-requires : goal.places_of-places-requires
places_of-places-requires c = sound (goal.at.places_of-places-requires c).Start

pub put_line-requires-clause-placed : goal.put_line-requires-clause-placed
put_line-requires-clause-placed c =
    let file = c.args.self.now.table.file.now in
    rw (line_places file _ _ _ c.places_of-places.ensures)
    (line_placed _ _ _ (job_of (goal.at.put_line-requires-clause-placed c).Start) (sym c.in_range.ensures ∙ search rules))

pub returns-clause-laid : goal.returns-clause-laid
returns-clause-laid c =
    let file = c.args.self.now.table.file.now in
    let same = ap (map (value_at file)) (line_places file _ _ _ c.places_of-places.ensures) in
    laid_as (ap line_text same ∙ text_in_lem _ _ _ (sym c.in_range.ensures ∙ search rules)) c.put_line.ensures.laid
