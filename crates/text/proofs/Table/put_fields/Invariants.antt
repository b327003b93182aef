-- `text::Table::put_fields` lays the values one by one: from turn to turn the first i are laid, each within 12 bytes.
use Rattle.std.proofs.Common.{◌≤◌, ◌+◌, ◌*◌}
use Rattle.text.specs.Text.{spaced_text, values_at}
use Rattle.areas.specs.Written.{Laid}
use Rattle.text.proofs.Table.put_fields.Given as goal

abbrev pub invariant-loop-i : goal.invariant-loop-i
invariant-loop-i l = record {
  laid : Laid (spaced_text (values_at l.self.file.now l.places l.i)) l.initial.out l.at l.out l.end;
  near : l.end ≤ l.at + 12 * l.i;
}
