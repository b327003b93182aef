-- The text of a record (document 01, "The program"), and what makes its places lie in the file.
use Rattle.std.specs.Prelude.{ℕ, ◌≡◌, List, [], cond}
use Rattle.job.specs.Read.{JobAccepted}
use Rattle.rows.specs.declared.Positions.{Positions}
use Rattle.rows.specs.Rows.{positions_in}
use Rattle.text.specs.Text.{line_text}
use Rattle.values.specs.Values.{in_range, joined_values}

-- g has the positions of the file's job, which is accepted
pub record JobOf (s : List ℕ) (g : Positions) : Type 0 where
  pub accepted : JobAccepted s
  pub positions : g ≡ positions_in s

-- the line of a record's joined values; no text where a row number is out of range
unfoldable pub record_text : List ℕ → Positions → List ℕ → List ℕ
record_text s g r = cond (in_range g r) (line_text (joined_values s g r)) []
