-- `text::put_texts` lays the texts one by one: from turn to turn the first w are laid.
use Rattle.std.proofs.Common.{◌≡◌}
use Rattle.text.specs.Text.{cells_after, sizes_after}
use Rattle.text.proofs.put_texts.Given as goal

abbrev pub invariant-loop-w : goal.invariant-loop-w
invariant-loop-w l = record {
  cells_after : l.cells ≡ cells_after l.file l.initial.cells l.w;
  sizes_after : l.sizes ≡ sizes_after l.file l.initial.sizes l.w;
}
