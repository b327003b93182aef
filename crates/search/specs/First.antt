-- The first number, from a given one on, that has a property.
use Rattle.std.specs.Prelude.{Option, Some, None}
use Rattle.std.specs.Prelude.{ℕ, zero, suc, ◌+◌, Bool, true, false}

-- p, where the test at p holds, and the rest of the search where it does not
unfoldable pub found_or : Bool → ℕ → Option ℕ → Option ℕ
found_or true p rest = Some p
found_or false p rest = rest

-- the first of the n numbers from p on at which f holds
unfoldable pub first_holding : (ℕ → Bool) → ℕ → ℕ → Option ℕ
first_holding f zero p = None
first_holding f (suc n) p = let rest = first_holding f n (p + 1) in found_or (f p) p rest
