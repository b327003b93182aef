-- What is never equal: the two truth values, and a search's two answers.
use Rattle.std.specs.Prelude.{Some, None}
use Rattle.std.specs.Prelude.{ℕ, ◌≡◌, Bool, true, false}
use Rattle.std.proofs.Common.{arith}

pub true_false : ◌≡◌ {A = Bool} true false → ⊥
true_false e = let z : ◌≡◌ {A = ℕ} 0 1 = cc in omega arith

pub at_nothing : {p : ℕ} → Some p ≡ None → ⊥
at_nothing e = let z : ◌≡◌ {A = ℕ} 0 1 = cc in omega arith

pub at_same : {p q : ℕ} → Some p ≡ Some q → p ≡ q
at_same e = cc
