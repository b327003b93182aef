-- An answer in numbers is the numbers of its answer; what is handed back can be handed in again; and numbers of no
-- state are refused as a state that does not fit, in that place of document 01's order.
use Rattle.std.specs.Prelude.{ℕ, ◌≤◌, ◌<◌, ◌≡◌, refl, false, List, ℤ, length, get_or, Result}
use Rattle.std.proofs.Common.{sym, ap, ◌∙◌}
use Rattle.layout.specs.declared.Refused.{Refused}
use Rattle.job.specs.Read.{JobAccepted}
use Rattle.rows.specs.declared.Positions.{Positions}
use Rattle.rows.specs.Rows.{positions_in}
use Rattle.treetracker.specs.declared.State.{State}
use Rattle.treetracker.specs.Steps.{no_state}
use Rattle.treetracker.specs.Fits.{position_fits, fits_of}
use Rattle.flat.specs.FlatLaws.{no_kind}
use Rattle.flat.specs.Theorems.{back}
use Rattle.runs.specs.declared.Ran.{Ran}
use Rattle.runs.specs.Run.{Beginning, begins, begin_answer, Running, runs, run_answer}
use Rattle.runs.proofs.AnswerLaws.{run_misfit}
use Rattle.values.specs.Values.{Left, values_answer}
use Rattle.korrigwen_c.specs.declared.StateNumbers.{StateNumbers}
use Rattle.korrigwen_c.specs.Numbers.{state_numbers, no_numbers, misfit, taken_or, given_state, begun_numbers, begun_with}
use Rattle.korrigwen_c.specs.Numbers.{begin_numbers, ran_numbers, ran_with, run_numbers, joined_numbers, joined_with}
use Rattle.korrigwen_c.specs.Numbers.{values_numbers}

-- ---- answers in numbers
pub begin_is : (s m l : List ℕ) (b : Result State Refused) → begins b l ≡ begin_answer s m
    → begun_with (begun_numbers b) l ≡ begin_numbers s m
begin_is s m l b e = ap (λ (w : Beginning). begun_with (begun_numbers w.answer) w.marks) e

pub run_is : (s m a l f : List ℕ) (v : StateNumbers) (i : State) (budget : ℕ) (r : Result Ran Refused)
    → i ≡ given_state v → runs r l f ≡ run_answer s i m budget a
    → ran_with (ran_numbers r) l f ≡ run_numbers s v m budget a
run_is s m a l f v i budget r d e =
    ap (λ (w : Running). ran_with (ran_numbers w.answer) w.marks w.area)
    (e ∙ ap (λ (x : State). run_answer s x m budget a) d)

pub values_is : (s r : List ℕ) (v l : List ℤ) (a : Result ℕ Refused)
    → ◌≡◌ {A = Left} (record { answer = a; values = l }) (values_answer s r v)
    → joined_with (joined_numbers a) l ≡ values_numbers s r v
values_is s r v l a e = ap (λ (w : Left). joined_with (joined_numbers w.answer) w.values) e

-- ---- states
-- the state beside a refusal, in numbers
pub no_state_numbers : state_numbers no_state ≡ no_numbers
no_state_numbers = refl

-- a state that was handed back is the one that is handed in
pub handed_back : (t : State) → length t.chosen ≡ 8 → given_state (state_numbers t) ≡ t
handed_back t h = ap taken_or (back t h)

-- a kind that is none
pub no_kind_misfit : (v : StateNumbers) → length v.numbers ≡ 14 → 2 < get_or v.numbers 0 0 → given_state v ≡ misfit
no_kind_misfit v l h = ap taken_or (no_kind v.numbers l h)

misfit_never : (g : Positions) → fits_of g misfit ≡ false
unfolding fits_of position_fits
misfit_never g = refl

-- so it gets 13 where the file and the mark area are in order, and both areas stay as they came
pub no_state_lem : (s m a : List ℕ) (v : StateNumbers) (budget : ℕ) → length v.numbers ≡ 14 → 2 < get_or v.numbers 0 0
    → JobAccepted s → (positions_in s).total ≤ length m
    → run_numbers s v m budget a
    ≡ ran_with (record { number = 13; place = 0; reason = 0; state = state_numbers no_state }) m a
no_state_lem s m a v budget l h ok long =
    ap (λ (w : Running). ran_with (ran_numbers w.answer) w.marks w.area)
    (ap (λ (t : State). run_answer s t m budget a) (no_kind_misfit v l h)
    ∙ sym (run_misfit s misfit m budget a _ (positions_in s) ok refl long (misfit_never (positions_in s))))
