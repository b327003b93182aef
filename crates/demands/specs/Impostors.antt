-- Document 01, "How tight the statements have to be": the impostors that it names, each refuted. A reader or a runner
-- here is anything that might stand in the place of `read` or `run`; what refutes it is one sentence of the theorem
-- page, kept for every input. That `read` and `run` keep these sentences is on the page.
use Rattle.std.specs.Prelude.{ℕ, ◌+◌, ◌-◌, ◌*◌, ◌≤◌, ◌<◌, ◌≡◌, refl, ◌↔◌, ◌≢◌, List, [], ◌∷◌, reverse, true}
use Rattle.std.specs.Prelude.{false, length, replicate, Result}
use Rattle.std.proofs.Common.{sym, ap, ◌∙◌, arith}
use Rattle.std.proofs.Math.Decide.{ℕ_discrete}
use Rattle.numbers.specs.Numbers.{number_at, signed, value_at}
use Rattle.search.specs.First.{found_or, first_holding}
use Rattle.columns.specs.Columns.{has, columns_below, implies, every_below}
use Rattle.layout.specs.declared.Refused.{Refused}
use Rattle.layout.specs.Layout.{Layout}
use Rattle.layout.specs.Contents.{is_outside, refuse_if, head_verdict, repeated, faulty_byte, end_if, judged, ending}
use Rattle.layout.specs.Contents.{on_entry, entries_from, after_head, after_plan, contents_of}
use Rattle.plan.specs.Ears.{occurs, is_key, has_keys}
use Rattle.plan.specs.Parents.{on_parent, parents_from, parents_of}
use Rattle.plan.specs.Paper.{ReductionOrder}
use Rattle.job.specs.declared.Job.{Job}
use Rattle.job.specs.Query.{query_in, plan_in}
use Rattle.job.specs.Read
use Rattle.job.specs.Read.{plan_parents, read_contents, read_answer, Accepted, JobAccepted}
use Rattle.job.specs.Theorems.{not_accepted}
use Rattle.rows.specs.Rows.{positions_in, rows_before, value_of, agree, agree_on}
use Rattle.values.specs.Values.{pair_agrees, rows_agree}
use Rattle.treetracker.specs.declared.State.{State}
use Rattle.treetracker.specs.Steps.{live, matches, next_row, chose, fruitless, advance_of, lookup_of}
use Rattle.treetracker.specs.Steps.{lookup_marks, step_of}
use Rattle.treetracker.specs.Steps.{step_marks}
use Rattle.runs.specs.Run.{fresh_state, begin_in, begin_answer, is_ended, mark_of, marked_in, run_answer}
use Rattle.runs.specs.Procedure.{Core, core, core_step, iterate}
use Rattle.theory.specs.Along.{along}
use Rattle.join.specs.Natural.{with_row, choices_from, only, natural_join}
use Rattle.join.specs.Calls.{Call, Standing, begun, Runner, called_by, calls_by, Began, start}
use Rattle.demands.specs.Files.{le, bytes, file, W, job_w, twins, empty}
use Rattle.demands.specs.Reading.{accepted_exactly}
use Rattle.demands.specs.Natural.{same_as_procedure, records_all, within_budget, progress}

-- ---- what the documents' own jobs come to
-- the mark area that W is begun with
abbrev pub marks_w : List ℕ
marks_w = replicate 6 9

-- state and marks of W after n steps
abbrev pub steps_w : ℕ → Core
steps_w n = iterate (positions_in job_w) job_w n (start job_w marks_w)

pub record Computed : Type 0 where
  pub accepted : JobAccepted job_w
  pub begins_twins : Began twins (replicate 2 9)
  pub begins_empty : Began empty []
  pub begins_w : Began job_w marks_w
  pub fresh : (begun job_w marks_w).state ≡ fresh_state
  pub three : (positions_in job_w).k ≡ 3
  -- two equal rows are two records, and an empty table gives none
  pub two : length (natural_join twins) ≡ 2
  pub none : length (natural_join empty) ≡ 0
  -- W has one record; its first step completes none, and its last, the twelfth, leaves 5 lookups; the bound allows 6
  pub one : length (natural_join job_w) ≡ 1
  pub none_yet : (steps_w 0).state.records ≡ 0
  pub first : (steps_w 1).state.records ≡ 0
  pub lookups : (steps_w 12).state.lookups ≡ 5
  pub bound : ((positions_in job_w).k - 1)
      * ((steps_w 12).state.records + marked_in (steps_w 12).marks (positions_in job_w).total)
      ≡ 6

pub computed : Computed
unfolding le bytes file W twins empty read_answer read_contents Read.after_plan plan_parents
    contents_of after_head after_plan head_verdict is_outside refuse_if repeated faulty_byte end_if judged
    ending on_entry entries_from parents_of parents_from on_parent occurs is_key has_keys has columns_below
    implies every_below first_holding found_or number_at rows_before begun begin_in begin_answer
    iterate core_step marked_in mark_of live matches next_row chose fruitless advance_of lookup_of lookup_marks
    step_of step_marks natural_join choices_from with_row only along rows_agree pair_agrees agree_on agree
    value_of value_at signed
computed = record {
  accepted = refl;
  begins_twins = refl;
  begins_empty = refl;
  begins_w = refl;
  fresh = refl;
  three = refl;
  two = refl;
  none = refl;
  one = refl;
  none_yet = refl;
  first = refl;
  lookups = refl;
  bound = refl;
}

-- a file of no bytes is refused
none_refused : Accepted (read_answer []) → ⊥
unfolding read_answer read_contents contents_of after_head head_verdict is_outside refuse_if
none_refused e = not_accepted e

-- ---- readers
-- the sentence of acceptance
abbrev pub AcceptsExactly : (List ℕ → Result Job Refused) → Type 0
AcceptsExactly read =
    (s : List ℕ) → Accepted (read s) ↔ (Layout s × ReductionOrder (query_in s) (reverse (plan_in s)))

pub read_keeps : AcceptsExactly read_answer
read_keeps = accepted_exactly

module _ (read : List ℕ → Result Job Refused) (keeps : AcceptsExactly read) where
  -- a reader that refuses everything
  pub refuses_all : ((s : List ℕ) → Accepted (read s) → ⊥) → ⊥
  refuses_all h = h job_w ((keeps job_w).1 ((accepted_exactly job_w).0 computed.accepted))

  -- a reader that accepts everything
  pub accepts_all : ((s : List ℕ) → Accepted (read s)) → ⊥
  accepts_all h = none_refused ((accepted_exactly []).1 ((keeps []).0 (h [])))

-- ---- runners
-- where the calls of a runner leave a job that was begun
abbrev pub standing : Runner → (s m : List ℕ) → List Call → Standing
standing run s m cs = calls_by run s cs (begun s m)

-- the sentence on records, at the end
abbrev pub YieldsJoin : Runner → Type 0
YieldsJoin run =
    (s m : List ℕ) → Began s m → (cs : List Call) → is_ended (standing run s m cs).state.next ≡ true
    → (standing run s m cs).records ≡ natural_join s

pub run_yields : YieldsJoin run_answer
run_yields = records_all

-- the sentence on state and marks, after any calls
abbrev pub KeepsStep : Runner → Type 0
KeepsStep run =
    (s m : List ℕ) → Began s m → (cs : List Call)
    → core (standing run s m cs).state (standing run s m cs).marks
    ≡ iterate (positions_in s) s (standing run s m cs).state.steps (start s m)

pub run_keeps : KeepsStep run_answer
run_keeps = same_as_procedure

-- a runner comes to an end with these records, whatever the job is
abbrev pub EndsWith : Runner → List (List ℕ) → Type 0
EndsWith run records =
    (s m : List ℕ) → Began s m
    → (cs : List Call)
    × (is_ended (standing run s m cs).state.next ≡ true)
    × ((standing run s m cs).records ≡ records)

module _ (run : Runner) (yields : YieldsJoin run) where
  ends_in_join : (records : List (List ℕ)) → EndsWith run records → (s m : List ℕ) → Began s m
      → length records ≡ length (natural_join s)
  ends_in_join records h s m b = let (cs, e, r) = h s m b in ap length (sym r ∙ yields s m b cs e)

  -- a runner that yields one fixed list
  pub one_list : (records : List (List ℕ)) → EndsWith run records → ⊥
  one_list records h =
      let a = ends_in_join records h twins (replicate 2 9) computed.begins_twins in
      let b = ends_in_join records h empty [] computed.begins_empty in
      let two = computed.two in
      let none = computed.none in
      omega arith

  -- a runner that never yields a record
  pub no_record : EndsWith run [] → ⊥
  no_record = one_list []

module _ (run : Runner) (keeps : KeepsStep run) (cs : List Call) where
  abbrev after : Standing
  after = standing run job_w marks_w cs

  pub is_step : (n : ℕ) → after.state.steps ≡ n → core after.state after.marks ≡ steps_w n
  is_step n e = keeps job_w marks_w computed.begins_w cs ∙ ap steps_w e

  -- a runner that does the whole join in its first step, and idles afterwards
  pub all_at_once : after.state.steps ≡ 1 → after.state.records ≡ length (natural_join job_w) → ⊥
  all_at_once e h =
      let a = ap (λ (c : Core). c.state.records) (is_step 1 e) in
      let none = computed.first in
      let one = computed.one in
      omega arith

  -- after the last step of W its lookup figure is 5: `own_figure` of proofs/Impostors.antt
  abbrev pub OwnFigure : Type 0
  OwnFigure = after.state.steps ≡ 12 → after.state.lookups ≡ 5

  -- so a figure made up to fit the bound, which allows 6, is another: `made_up_figure` of proofs/Impostors.antt
  abbrev pub MadeUpFigure : Type 0
  MadeUpFigure =
      after.state.steps ≡ 12
      → after.state.lookups
      ≡ ((positions_in job_w).k - 1) * (after.state.records + marked_in after.marks (positions_in job_w).total)
      → ⊥

-- the sentence on budgets
abbrev pub KeepsBudget : Runner → Type 0
KeepsBudget run =
    (s m : List ℕ) → Began s m → (cs : List Call) (c : Call)
    → (called_by run s (standing run s m cs) c).state.steps ≤ (standing run s m cs).state.steps + c.budget

pub run_in_budget : KeepsBudget run_answer
run_in_budget = within_budget

-- the sentence on progress
abbrev pub Progresses : Runner → Type 0
Progresses run =
    (s m : List ℕ) → Began s m → (cs : List Call) (c : Call)
    → is_ended (standing run s m cs).state.next ≡ false → (standing run s m cs).state.steps ≢ 16777216
    → c.budget ≢ 0 → (positions_in s).k ≤ length c.area
    → (standing run s m cs).state.steps < (called_by run s (standing run s m cs) c).state.steps

pub run_progresses : Progresses run_answer
run_progresses = progress

-- W after no call has taken no step
no_step : (begun job_w marks_w).state.steps ≡ 0
no_step = ap (λ (t : State). t.steps) computed.fresh

-- a runner that does the whole join in a first call with budget 1, whatever its steps say
pub all_in_one_call : (run : Runner) → KeepsStep run → KeepsBudget run → (c : Call) → c.budget ≡ 1
    → (standing run job_w marks_w (c ∷ [])).state.records ≡ length (natural_join job_w)
    → ⊥
unfolding calls_by
all_in_one_call run keeps budget c e h =
    let most = budget job_w marks_w computed.begins_w [] c in
    let fresh = no_step in
    let one = computed.one in
    pick (ℕ_discrete (called_by run job_w (begun job_w marks_w) c).state.steps 0) (omega arith)
  where
    at_step : (n : ℕ) → (called_by run job_w (begun job_w marks_w) c).state.steps ≡ n
        → (called_by run job_w (begun job_w marks_w) c).state.records ≡ (steps_w n).state.records
    at_step n e = ap (λ (x : Core). x.state.records) (is_step run keeps (c ∷ []) n e)

    pick : Dec ((called_by run job_w (begun job_w marks_w) c).state.steps ≡ 0)
        → (called_by run job_w (begun job_w marks_w) c).state.steps ≤ 1
        → ⊥
    pick (yes z) l = let r = at_step 0 z in let none = computed.none_yet in let one = computed.one in omega arith
    pick (no d) l =
        let r = at_step 1 (omega arith) in
        let none = computed.first in
        let one = computed.one in
        omega arith

-- a runner that stands still
pub stands_still : (run : Runner) → Progresses run
    → ((c : Call) → (called_by run job_w (begun job_w marks_w) c).state.steps ≡ 0)
    → ⊥
unfolding calls_by
stands_still run progresses h =
    let c : Call = record { budget = 1; area = replicate 3 0 } in
    let fresh = no_step in
    let going : is_ended (begun job_w marks_w).state.next ≡ false =
    ap (λ (t : State). is_ended t.next) computed.fresh in
    let three = computed.three in
    let z = h c in
    let l = progresses job_w marks_w computed.begins_w [] c going (omega arith) (omega arith) (omega arith) in
    omega arith
