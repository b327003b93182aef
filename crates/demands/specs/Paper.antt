-- Paper 001: the procedure of document 01's steps is the paper's Figure 2b, unrolled, and what the paper says of it.
-- The figures are definitions of their own, in the paper's shape: crates/paper/specs/Figures.antt (2a and 2b) and
-- Parents.antt (2c).
-- `figure s` is Figure 2b with the parents of Figure 2c, for the tables of the file s in its plan's order.
-- docs/PAPER.md says where else the paper stands here.
use Rattle.std.specs.Prelude.{None}
use Rattle.std.specs.Prelude.{ℕ, ◌≤◌, ◌<◌, ◌≡◌, ◌↔◌, List, reverse, true, length}
use Rattle.layout.specs.File.{tables}
use Rattle.plan.specs.Paper.{Permutation, ReductionOrder}
use Rattle.plan.specs.Reduction.{query_of, InPlanOrder}
use Rattle.job.specs.Read.{JobAccepted}
use Rattle.job.specs.Given.{masks_of}
use Rattle.rows.specs.Rows.{positions_in}
use Rattle.runs.specs.Run.{is_ended}
use Rattle.runs.specs.Procedure.{Core, iterate}
use Rattle.join.specs.Calls.{Call, Standing, begun, calls, Began, completed, start}
use Rattle.join.specs.Blame.{blamed_rows}
use Rattle.join.specs.Instance.{tables_in}
use Rattle.paper.specs.Figures.{binary_join}
use Rattle.paper.specs.Parents.{parent}
use Rattle.paper.specs.Parents as Parents
use Rattle.paper.specs.Ran.{figure}
use Rattle.paper.specs.Ran.{SameAs}
use Rattle.paper.proofs.Theorems as Theorems

-- ---- Figure 2b
-- where the steps from the fresh state have ended, their records, the rows that they marked, in order, and their
-- lookups are those of the figure
module _ (s m : List ℕ) (accepted : JobAccepted s) (long : (positions_in s).total ≤ length m) (n : ℕ) where
  -- where n steps lead
  abbrev stepped : Core
  stepped = iterate (positions_in s) s n (start s m)

  pub figure_2b : is_ended stepped.state.next ≡ true
      → SameAs (figure s) (completed (positions_in s) s n (start s m)) (blamed_rows s m n) stepped.state.lookups
  figure_2b = Theorems.steps_are_figure s m accepted long n

module _ (s m : List ℕ) (b : Began s m) (cs : List Call) where
  -- where any run calls leave the job
  abbrev after : Standing
  after = calls s cs (begun s m)

  module _ (ended : is_ended after.state.next ≡ true) where
    -- the same of run calls that came to the end
    pub figure_2b_calls : SameAs (figure s) after.records (blamed_rows s m after.state.steps)
        after.state.lookups
    figure_2b_calls = Theorems.calls_are_figure s m b cs ended

    -- ---- Theorem 3.7: with the same plan, no more lookups than the binary join of Figure 2a
    pub theorem_3·7 : after.state.lookups ≤ (binary_join (tables_in (positions_in s) s)).lookups
    theorem_3·7 = Theorems.lookups_few s m b cs ended

-- ---- Lemma 3.4: where a plan is the reverse of a GYO reduction order, only the root has no parent
module _ (atoms plan schemas : List ℕ) (each : Permutation (length atoms) plan)
    (order : InPlanOrder atoms plan schemas) (reduces : ReductionOrder (query_of atoms) (reverse plan)) where
  pub lemma_3·4 : (i : ℕ) → i < length plan → (parent schemas i ≡ None) ↔ (i ≡ 0)
  lemma_3·4 = Parents.reversed_order atoms plan schemas each order reduces

-- so it is in an accepted job
pub lemma_3·4_job : (s : List ℕ) → JobAccepted s → (i : ℕ) → i < tables s → (parent (masks_of s) i ≡ None) ↔ (i ≡ 0)
lemma_3·4_job = Parents.accepted_root
