-- No two numbers are the same signed one, and a number depends on its own four bytes alone.
use Rattle.std.specs.Prelude.{ℕ, ◌+◌, ◌≤◌, ◌<◌, ◌≡◌, List, length, get_or}
use Rattle.std.proofs.Common.{arith}
use Rattle.std.proofs.lemmas.Bool.Decides.{nat_tests}
use Rattle.numbers.specs.Numbers.{number_at, signed}

-- numbers of 32 bits that are the same signed number are the same
pub signed_same : (n m : ℕ) → n < 4294967296 → m < 4294967296 → signed n ≡ signed m → n ≡ m
unfolding signed
signed_same n m a b e = grind (arith, nat_tests)

-- two files of one length with the same four bytes at a place have the same number there
pub number_same : (s t : List ℕ) (at : ℕ) → length s ≡ length t
    → ((i : ℕ) → at ≤ i → i < at + 4 → get_or s i 0 ≡ get_or t i 0)
    → number_at s at ≡ number_at t at
unfolding number_at
number_same s t at l e =
    let a = e at (omega arith) (omega arith) in
    let b = e (at + 1) (omega arith) (omega arith) in
    let c = e (at + 2) (omega arith) (omega arith) in
    let d = e (at + 3) (omega arith) (omega arith) in
    rw (l, a, b, c, d)
