-- Demand 3's bound at the end of a run. Its statement is a definition of specs/Natural.antt, and its proof stands here, so that
-- an edit of the statement is refused for what it says.
use Rattle.std.specs.Prelude.{ℕ, List}
use Rattle.join.specs.Calls.{Call, Began}
use Rattle.join.proofs.Outcome
use Rattle.demands.specs.Natural.{BoundEnd}

pub bound_end : (s m : List ℕ) (b : Began s m) (cs : List Call) → BoundEnd s m b cs
bound_end = Outcome.bound_end
