-- What the functions for other languages answer: the numbers of each answer of document 01's operations, and what they
-- leave in each lent area. An answer has number 0 where nothing was refused; in a refusal everything but number and
-- place is 0.
use Rattle.std.specs.Prelude.{ℕ, List, ℤ, replicate, Result, Ok, Err}
use Rattle.layout.specs.declared.Refused.{Refused}
use Rattle.layout.specs.Numbers.{number_of}
use Rattle.layout.specs.File.{no_entries}
use Rattle.job.specs.declared.Job.{Job}
use Rattle.treetracker.specs.declared.Next.TheVariants.{Ended}
use Rattle.treetracker.specs.declared.State.{State}
use Rattle.treetracker.specs.Steps.{no_rows}
use Rattle.flat.specs.Flat.{numbers_of, state_of}
use Rattle.runs.specs.declared.Ran.{Ran}
use Rattle.runs.specs.Run.{stop_number, begin_answer, run_answer}
use Rattle.values.specs.Values.{values_answer}
use Rattle.korrigwen_c.specs.declared.ReadNumbers.{ReadNumbers}
use Rattle.korrigwen_c.specs.declared.StateNumbers.{StateNumbers}
use Rattle.korrigwen_c.specs.declared.BegunNumbers.{BegunNumbers}
use Rattle.korrigwen_c.specs.declared.RanNumbers.{RanNumbers}
use Rattle.korrigwen_c.specs.declared.JoinedNumbers.{JoinedNumbers}

-- ---- states
abbrev pub fourteen : List ℕ → StateNumbers
fourteen numbers = record { numbers = numbers }

abbrev pub state_numbers : State → StateNumbers
state_numbers t = fourteen (numbers_of t)

-- beside a refusal every number is 0
abbrev pub no_numbers : StateNumbers
no_numbers = fourteen (replicate 14 0)

-- a state that fits no job: where a run has ended, its position is 0
abbrev pub misfit : State
misfit = record { next = Ended; at = 1; start = 0; chosen = no_rows; steps = 0; lookups = 0; records = 0 }

-- the state that was taken; what was not taken counts as one that fits no job
abbrev pub taken_or : Result State Refused → State
taken_or (Ok t) = t
taken_or (Err r) = misfit

abbrev pub given_state : StateNumbers → State
given_state n = taken_or (state_of n.numbers)

-- ---- reading
abbrev pub read_numbers : Result Job Refused → ReadNumbers
read_numbers (Ok j) =
    record { number = 0; place = 0; k = j.k; plan = j.plan; entries = j.entries; parents = j.parents }
read_numbers (Err r) = record {
  number = number_of r.refusal;
  place = r.place;
  k = 0;
  plan = replicate 8 0;
  entries = no_entries;
  parents = replicate 8 0;
}

-- ---- beginning
abbrev pub begun_numbers : Result State Refused → BegunNumbers
begun_numbers (Ok t) = record { number = 0; place = 0; state = state_numbers t }
begun_numbers (Err r) = record { number = number_of r.refusal; place = r.place; state = no_numbers }

-- the answer, and the mark area afterwards
pub record BegunWith : Type 0 where
  pub answer : BegunNumbers
  pub marks : List ℕ

abbrev pub begun_with : BegunNumbers → List ℕ → BegunWith
begun_with a m = record { answer = a; marks = m }

abbrev pub begin_numbers : List ℕ → List ℕ → BegunWith
begin_numbers s m = begun_with (begun_numbers (begin_answer s m).answer) (begin_answer s m).marks

-- ---- running
abbrev pub ran_numbers : Result Ran Refused → RanNumbers
ran_numbers (Ok r) = record { number = 0; place = 0; reason = stop_number r.why; state = state_numbers r.state }
ran_numbers (Err r) = record { number = number_of r.refusal; place = r.place; reason = 0; state = no_numbers }

-- the answer, and both areas afterwards
pub record RanWith : Type 0 where
  pub answer : RanNumbers
  pub marks : List ℕ
  pub area : List ℕ

abbrev pub ran_with : RanNumbers → List ℕ → List ℕ → RanWith
ran_with r m a = record { answer = r; marks = m; area = a }

abbrev pub run_numbers : List ℕ → StateNumbers → List ℕ → ℕ → List ℕ → RanWith
run_numbers s n m budget a =
    let left = run_answer s (given_state n) m budget a in
    ran_with (ran_numbers left.answer) left.marks left.area

-- ---- joining values
abbrev pub joined_numbers : Result ℕ Refused → JoinedNumbers
joined_numbers (Ok n) = record { number = 0; place = 0; columns = n }
joined_numbers (Err r) = record { number = number_of r.refusal; place = r.place; columns = 0 }

-- the answer, and the value area afterwards
pub record JoinedWith : Type 0 where
  pub answer : JoinedNumbers
  pub values : List ℤ

abbrev pub joined_with : JoinedNumbers → List ℤ → JoinedWith
joined_with a v = record { answer = a; values = v }

abbrev pub values_numbers : List ℕ → List ℕ → List ℤ → JoinedWith
values_numbers s r v = joined_with (joined_numbers (values_answer s r v).answer) (values_answer s r v).values
