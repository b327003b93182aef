-- Joining values, and a state as numbers: what `join_values`, `numbers_of` and `state_of` answer, for every file,
-- record, value area, state and list of numbers. Their contracts are equations with `values_answer`, `numbers_of` and
-- `state_of`.
use Rattle.std.specs.Prelude.{Some, Ok}
use Rattle.std.specs.Prelude.{ℕ, ◌≤◌, ◌<◌, ◌≡◌, ◌↔◌, ◌≢◌, ◌⊎◌, List, true, length, get_or, ℤ}
use Rattle.layout.specs.declared.Refusal.{Refusal}
use Rattle.layout.specs.declared.Refusal.TheVariants.{State as StateRow}
use Rattle.layout.specs.Contents.{refused as refused_by}
use Rattle.layout.specs.Numbers.{number_of, answer_of}
use Rattle.layout.specs.Numbers.{refused as reading_refused}
use Rattle.job.specs.Read.{JobAccepted}
use Rattle.job.specs.Given.{First}
use Rattle.rows.specs.declared.Positions.{Positions}
use Rattle.rows.specs.Rows.{positions_in, entry_of, value_of}
use Rattle.treetracker.specs.declared.State.{State}
use Rattle.values.specs.Values.{row_at, record_fits, RecordFits, is_column, columns_up_to, column_total, first_with}
use Rattle.values.specs.Values.{joined_places, values_answer, ValuesAnswer, columns, refused}
use Rattle.values.specs.FitLaws
use Rattle.values.specs.Outcome.{Fitting}
use Rattle.values.specs.Theorems as values
use Rattle.values.specs.Theorems.{answered}
use Rattle.flat.specs.Flat.{numbers_of, taken, not_taken, state_of}
use Rattle.flat.specs.Theorems as flat

-- ---- joining values
-- the tests of a record hold exactly if it fits, in document 01's words
pub record_fits_exactly : (s : List ℕ) (g : Positions) (r : List ℕ) → (record_fits s g r ≡ true) ↔ RecordFits s g r
record_fits_exactly = FitLaws.record_fits_exactly

-- the places of the joined values are as many as the distinct columns, which are at most 32
pub places_total : (g : Positions) (r : List ℕ) → g.k ≤ 8
    → (length (joined_places g r) ≡ column_total g) × (column_total g ≤ 32)
places_total = values.places_total

module _ (s r : List ℕ) (area : List ℤ) where
  abbrev g : Positions
  g = positions_in s

  -- what is answered, and the value area afterwards
  abbrev said : ValuesAnswer
  said = answered s r area

  abbrev after : List ℤ
  after = (values_answer s r area).values

  -- 1 to 11 are given, with their places, exactly if reading gives them
  pub values_reading : (q : Refusal) (p : ℕ) → number_of q ≤ 11 → (said ≡ refused (number_of q) p) ↔ First s q p
  values_reading = values.reading_exactly s r area

  -- 14, at 0, exactly if the job is accepted and the record does not fit
  pub values_record : (p : ℕ) → (said ≡ refused 14 p) ↔ ((p ≡ 0) × JobAccepted s × (Fitting s r → ⊥))
  values_record = values.record_exactly s r area

  -- 15, at 0, exactly if the job is accepted, the record fits and the value area is shorter than the number of distinct
  -- columns
  pub values_area : (p : ℕ)
      → (said ≡ refused 15 p) ↔ ((p ≡ 0) × JobAccepted s × Fitting s r × (length area < column_total g))
  values_area = values.area_exactly s r area

  -- otherwise the number of distinct columns
  pub values_columns : (n : ℕ)
      → (said ≡ columns n) ↔ ((n ≡ column_total g) × JobAccepted s × Fitting s r × (column_total g ≤ length area))
  values_columns = values.columns_exactly s r area

  -- a refusal leaves the value area as it came
  pub values_untouched : (n p : ℕ) → said ≡ refused n p → after ≡ area
  values_untouched = values.refused_untouched s r area

  module _ (n : ℕ) (answers : said ≡ columns n) where
    -- "their values, ascending by column, stand at the front of the value area": after those of the columns below it
    -- stands the value of a column, in the row of the first position that has it
    pub column_value : (c : ℕ) → c < 32 → is_column g c ≡ true → (d : ℤ)
        → (p : ℕ)
        × (first_with g c ≡ Some p)
        × (get_or after (columns_up_to g c) d ≡ value_of s (entry_of g p) (row_at r p) c)
    column_value = values.column_value s r area n answers

    -- "and its later places are untouched"
    pub later_untouched : (i : ℕ) → n ≤ i → (d : ℤ) → get_or after i d ≡ get_or area i d
    later_untouched = values.later_untouched s r area n answers

-- ---- a state as numbers
-- nothing is lost on the way, and nothing else is taken
pub numbers_back : (t : State) → length t.chosen ≡ 8 → state_of (numbers_of t) ≡ taken t
numbers_back = flat.back

pub numbers_forth : (n : List ℕ) (t : State) → state_of n ≡ Ok t → numbers_of t ≡ n
numbers_forth = flat.forth

-- numbers are refused, with 13 at 0 and nothing else, exactly if there are not 14 or the kind is over 2
pub not_a_state : (n : List ℕ) → (state_of n ≡ refused_by StateRow 0) ↔ ((length n ≢ 14) ⊎ (2 < get_or n 0 0))
not_a_state = flat.not_a_state

pub thirteen : answer_of not_taken ≡ reading_refused 13 0
thirteen = flat.thirteen

pub refused_alone : (n : List ℕ) → ((t : State) → state_of n ≢ Ok t) → state_of n ≡ not_taken
refused_alone = flat.refused_alone
