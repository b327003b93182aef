-- Demands 2 and 3: what run calls hand out, count and mark. A job is begun with a mark area m, and
-- `calls s cs (begun s m)` is where any list cs of calls leaves it, with any budgets and areas, each made on the file,
-- state and marks as the former left them. The natural join is `natural_join s`, the procedure of paper 001 `iterate`
-- from `start s m`, and `blamed_rows` the rows that its lookups marked, in order. These are definitions of
-- crates/join/specs/Natural.antt, Calls.antt and Blame.antt, and of crates/runs/specs/Procedure.antt.
use Rattle.std.specs.Prelude.{ℕ, ◌+◌, ◌-◌, ◌*◌, ◌≤◌, ◌<◌, ◌≡◌, ◌↔◌, ◌≢◌, ◌⊎◌, true, false, length, get_or, take}
use mathlib.Core.List.{List, Memᴰ}
use Rattle.rows.specs.declared.Positions.{Positions}
use Rattle.rows.specs.Rows.{positions_in, mark_place}
use Rattle.values.specs.Values.{RecordFits}
use Rattle.treetracker.specs.Steps.{live}
use Rattle.treetracker.specs.Fits.{Fits}
use Rattle.runs.specs.declared.Stop.{Stop}
use Rattle.runs.specs.Run.{cleared, is_ended, marked_in, run_answer}
use Rattle.runs.specs.Procedure.{core, iterate, verdict_of, Stopped}
use Rattle.theory.specs.Choices.{Row, Among}
use Rattle.theory.specs.Order.{Ascending}
use Rattle.join.specs.Natural.{natural_join}
use Rattle.join.proofs.NaturalLaws
use Rattle.join.specs.Calls.{Call, Standing, begun, called, calls, Began, Able, start}
use Rattle.join.proofs.CallLaws
use Rattle.join.specs.Blame.{blamed_rows, marked_by}
use Rattle.join.specs.Blame.{OfJob, Once}
use Rattle.join.specs.Natural.{enough}
use Rattle.join.proofs.Theorems as Procedure
use Rattle.join.proofs.Outcome
use Rattle.job.specs.Read.{JobAccepted}

-- ---- the natural join
-- its members are exactly the records that fit: a row of each table, any two of them agreeing on every shared column
pub natural_exactly : (s x : List ℕ) → Memᴰ x (natural_join s) ↔ RecordFits s (positions_in s) x
natural_exactly = NaturalLaws.natural_exactly

-- in strictly ascending order of their rows in plan order, so each once
pub natural_ascends : (s : List ℕ) → Ascending (natural_join s)
natural_ascends = NaturalLaws.natural_ascends

-- ---- the beginning is accepted exactly if the job is and the mark area is as long as the job has rows
pub began_exactly : (s m : List ℕ) → Began s m ↔ (JobAccepted s × ((positions_in s).total ≤ length m))
began_exactly = CallLaws.began_exactly

-- ---- after any calls
module _ (s m : List ℕ) (b : Began s m) (cs : List Call) where
  abbrev g : Positions
  g = positions_in s

  -- where the calls leave the job
  abbrev after : Standing
  after = calls s cs (begun s m)

  -- the run has ended there
  abbrev AtEnd : Type 0
  AtEnd = is_ended after.state.next ≡ true

  -- the rows that lookups blamed by then, in order
  abbrev blamed : List Row
  blamed = blamed_rows s m after.state.steps

  -- Same as the procedure: state and marks are those of its steps from the fresh state, as many as the state counts; so
  -- is the lookup count, which is part of the state
  pub same_as_procedure : core after.state after.marks ≡ iterate g s after.state.steps (start s m)
  same_as_procedure = (CallLaws.stands s m b cs).same

  -- Records: all that were handed out so far, in order, are the first of the natural join, as many as the state counts;
  -- at the end they are all of it
  pub records_first : after.records ≡ take after.state.records (natural_join s)
  records_first = Outcome.records_first s m b cs

  pub records_counted : length after.records ≡ after.state.records
  records_counted = (CallLaws.stands s m b cs).counted

  pub records_all : AtEnd → after.records ≡ natural_join s
  records_all = Outcome.records_all s m b cs

  -- each of them fits the job, so joining its values is never refused with 14
  pub records_fit : (x : List ℕ) → Memᴰ x after.records → RecordFits s g x
  records_fit = Outcome.records_fit s m b cs

  -- Bound: lookups are at most (tables − 1) × (records + marked rows), where before the end 1 is added inside the
  -- second bracket
  pub bound : after.state.lookups ≤ (g.k - 1) * (length after.records + marked_in after.marks g.total + 1)
  bound = Outcome.bound s m b cs

  -- proved as `bound_end` of proofs/Natural.antt
  abbrev pub BoundEnd : Type 0
  BoundEnd =
      AtEnd → after.state.lookups ≤ (g.k - 1) * (length (natural_join s) + marked_in after.marks g.total)

  -- at the end steps are at most 3 × lookups + records + 1
  pub steps_end : AtEnd → after.state.steps ≤ 3 * after.state.lookups + length (natural_join s) + 1
  steps_end = Outcome.steps_end s m b cs

  -- Marks: the mark area is the one that beginning left, with a 1 for each row that was blamed; none was blamed twice,
  -- so each marked row is marked once
  pub marks_by : after.marks ≡ marked_by g blamed (cleared g.total m)
  marks_by = Outcome.marks_by s m b cs

  pub marked_once : Once blamed
  marked_once = Outcome.marked_once s m b cs

  -- the marked rows of the job are the blamed ones, and as many
  pub marked_exactly : (p r : ℕ) → OfJob g p r → (live g after.marks p r ≡ false) ↔ Among blamed p r
  marked_exactly = Outcome.marked_exactly s m b cs

  pub marked_counted : marked_in after.marks g.total ≡ length blamed
  marked_counted = Outcome.marked_counted s m b cs

  -- a blamed row is one of the job's, stands in no record of the full join, and is not of the plan's last table
  pub blamed_own : (p r : ℕ) → Among blamed p r → OfJob g p r
  blamed_own = Outcome.blamed_own s m b cs

  pub blamed_nowhere : (p r : ℕ) → Among blamed p r → (x : List ℕ) → Memᴰ x (natural_join s) → get_or x p 0 ≢ r
  blamed_nowhere = Outcome.blamed_nowhere s m b cs

  pub blamed_early : (p r : ℕ) → Among blamed p r → p + 1 < g.k
  blamed_early = Outcome.blamed_early s m b cs

  -- byte by byte: 1 for a blamed row, 0 for any other row of the job, and what was there for all that is not the job's
  pub byte_of_blamed : (p r : ℕ) → Among blamed p r → get_or after.marks (mark_place g p r) 0 ≡ 1
  byte_of_blamed = Outcome.byte_of_blamed s m b cs

  pub byte_of_others : (p r : ℕ) → OfJob g p r → (Among blamed p r → ⊥) → get_or after.marks (mark_place g p r) 0 ≡ 0
  byte_of_others = Outcome.byte_of_others s m b cs

  pub byte_beyond : (i : ℕ) → g.total ≤ i → get_or after.marks i 0 ≡ get_or m i 0
  byte_beyond = Outcome.byte_beyond s m b cs

  -- Fit: the state fits the job, and no further call is refused
  pub state_fits : Fits g after.state
  state_fits = (CallLaws.stands s m b cs).fits

  pub never_refused : (c : Call)
      → (why : Stop) × (verdict_of (run_answer s after.state after.marks c.budget c.area) ≡ Stopped why)
  never_refused = CallLaws.never_refused s m b after (CallLaws.stands s m b cs)

  -- Progress: a call that has budget and room takes a step, unless the run has ended or is at its step limit
  pub progress : (c : Call) → is_ended after.state.next ≡ false → after.state.steps ≢ 16777216 → c.budget ≢ 0
      → g.k ≤ length c.area
      → after.state.steps < (called s after c).state.steps
  progress = CallLaws.progress s m b after (CallLaws.stands s m b cs)

  -- and no more steps than its budget
  pub within_budget : (c : Call) → (called s after c).state.steps ≤ after.state.steps + c.budget
  within_budget = CallLaws.within_budget s m b after (CallLaws.stands s m b cs)

  -- so a caller that goes on reaches the end or the step limit
  pub reaches_end : Able s cs → 16777216 ≤ length cs → AtEnd ⊎ (after.state.steps ≡ 16777216)
  reaches_end = CallLaws.reaches_end s m b cs

  -- and the end itself, where the limit is not below `enough`, which is 3 × (tables − 1) × (records + rows + 1) +
  -- records + 3
  pub limit_not_met : enough s ≤ 16777216 → after.state.steps ≡ 16777216 → AtEnd
  limit_not_met = Outcome.limit_not_met s m b cs

-- the procedure itself ends, for every accepted job
pub procedure_ends : (s m : List ℕ) → JobAccepted s → (positions_in s).total ≤ length m → (n : ℕ) → enough s ≤ n
    → is_ended (iterate (positions_in s) s n (start s m)).state.next ≡ true
procedure_ends = Procedure.procedure_ends
