-- A state as 14 numbers, and back (document 01, "The steps of a run": "The state goes in by value and the next state is
-- handed back").
use Rattle.std.specs.Prelude.{ℕ, List, [], ◌∷◌, Bool, cond, ◌&&◌, length, get_or, eqb, leb, Option, Some, None, Result, Ok}
use Rattle.layout.specs.declared.Refusal.TheVariants.{State as StateRow}
use Rattle.layout.specs.declared.Refused.{Refused}
use Rattle.layout.specs.Contents.{refused}
use Rattle.treetracker.specs.declared.Next.{Next}
use Rattle.treetracker.specs.declared.Next.TheVariants.{Ended, Advance, Lookup}
use Rattle.treetracker.specs.declared.State.{State}

-- ---- from a state to its numbers
-- the kind of the next step
abbrev pub kind_of : Next → ℕ
kind_of Ended = 0
kind_of Advance = 1
kind_of Lookup = 2

-- the kind, the position, the starting row, the eight chosen rows, the steps, the lookups, the records
abbrev pub numbers_of : State → List ℕ
numbers_of t =
    kind_of t.next ∷ t.at ∷ t.start
    ∷ get_or t.chosen 0 0 ∷ get_or t.chosen 1 0 ∷ get_or t.chosen 2 0 ∷ get_or t.chosen 3 0
    ∷ get_or t.chosen 4 0 ∷ get_or t.chosen 5 0 ∷ get_or t.chosen 6 0 ∷ get_or t.chosen 7 0
    ∷ t.steps ∷ t.lookups ∷ t.records ∷ []

-- ---- and back
-- the next step of a kind; one over 2 is no kind, and is never asked for
unfoldable pub next_of : ℕ → Next
next_of kind = cond (eqb kind 0) Ended (cond (eqb kind 1) Advance Lookup)

-- the same of any number; one over 2 has none
abbrev pub next_if : ℕ → Option Next
next_if kind = cond (leb kind 2) (Some (next_of kind)) None

-- the numbers, each in its place
abbrev pub state_in : List ℕ → State
state_in n = record {
  next = next_of (get_or n 0 0);
  at = get_or n 1 0;
  start = get_or n 2 0;
  chosen = get_or n 3 0 ∷ get_or n 4 0 ∷ get_or n 5 0 ∷ get_or n 6 0 ∷ get_or n 7 0
      ∷ get_or n 8 0 ∷ get_or n 9 0 ∷ get_or n 10 0 ∷ [];
  steps = get_or n 11 0;
  lookups = get_or n 12 0;
  records = get_or n 13 0;
}

-- the state, accepted
abbrev pub taken : State → Result State Refused
taken t = Ok t

-- row 13: "A refusal gives number and place only"
abbrev pub not_taken : Result State Refused
not_taken = refused StateRow 0

-- whether numbers are those of a state: there are 14, and the kind is at most 2
unfoldable pub is_state : List ℕ → Bool
is_state n = eqb (length n) 14 && leb (get_or n 0 0) 2

-- the state that has these numbers, if one has
abbrev pub state_if : List ℕ → Option State
state_if n = cond (is_state n) (Some (state_in n)) None

-- the state that has these numbers; where none has, the refusal
unfoldable pub state_of : List ℕ → Result State Refused
state_of n = cond (is_state n) (taken (state_in n)) not_taken
