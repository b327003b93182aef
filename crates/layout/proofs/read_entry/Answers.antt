-- `layout::read_entry` judges the numbers of its entry, and gives a refusal its place.
use Rattle.std.proofs.Common.{rules, ◌∙◌, ap, length}
use Rattle.layout.specs.ContentsLaws.{placed_is}
use Rattle.layout.specs.Contents.{judged, placed}
use Rattle.layout.specs.declared.Entry.{Entry}
use Rattle.layout.proofs.read_entry.Goals as goal

pub returns : goal.returns
returns c =
    placed_is c.args.i c.judge.result _ _ c.map_err.ensures.cases (λ q p g. search rules)
    ∙ ap (placed c.args.i) c.judge.ensures
    ∙ ap (λ (e : Entry). placed c.args.i (judged e (length c.args.s.now) c.args.end)) c.entry_at.ensures
