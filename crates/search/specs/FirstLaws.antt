-- What a search says of the number that it gives, in this order: one turn of it, for the proofs of loops; what is known
-- of a number that was found; what is known where nothing was found; that a search looks at its property's values
-- alone; and `is_some`.
use Rattle.std.specs.Prelude.{Option, Some, None, is_some}
use Prim.Native.Nat.{ℕ, zero, suc, ◌+◌, ◌-◌, ◌≤◌, ◌<◌}
use Rattle.std.specs.Prelude.{◌≡◌, refl, Bool, true, false}
use Rattle.std.proofs.Common.{sym, subst}
use native.Mathlib.Omega.{arith}
use Rattle.std.proofs.Math.Decide.{ℕ_discrete}
use Rattle.search.specs.Apart.{true_false, at_nothing, at_same}
use Rattle.search.specs.First.{found_or, first_holding}

-- ---- one turn of a search that ends at `end`
module _ (f : ℕ → Bool) (end p : ℕ) where
  pub first_here : p < end → f p ≡ true → first_holding f (end - p) p ≡ Some p
  unfolding first_holding found_or
  first_here h e = let n : end - p ≡ suc (end - (p + 1)) = omega arith in rw (n, e)

  pub first_on : p < end → f p ≡ false → first_holding f (end - p) p ≡ first_holding f (end - (p + 1)) (p + 1)
  unfolding first_holding found_or
  first_on h e = let n : end - p ≡ suc (end - (p + 1)) = omega arith in rw (n, e)

  pub first_none : end ≤ p → first_holding f (end - p) p ≡ None
  unfolding first_holding
  first_none h = let n : end - p ≡ 0 = omega arith in rw n

-- ---- a number that was found
pub record First (f : ℕ → Bool) (n from p : ℕ) : Type 0 where
  pub low : from ≤ p
  pub high : p < from + n
  pub holds : f p ≡ true
  pub fails : (q : ℕ) → from ≤ q → q < p → f q ≡ false

-- what holds from p + 1 on, and at p, holds from p on
from_next : (P : ℕ → Type 0) (p end : ℕ) → P p → ((q : ℕ) → p + 1 ≤ q → q < end → P q) → (q : ℕ) → p ≤ q → q < end → P q
from_next P p end a later q l u = pick (ℕ_discrete q p)
  where
    pick : Dec (q ≡ p) → P q
    pick (yes e) = subst P (sym e) a
    pick (no d) = later q (omega arith) u

-- and what holds below p, and at p, holds below p + 1
pub below_next : (P : ℕ → Type 0) (p : ℕ) → ((q : ℕ) → q < p → P q) → P p → (q : ℕ) → q < p + 1 → P q
below_next P p before a q u = pick (ℕ_discrete q p)
  where
    pick : Dec (q ≡ p) → P q
    pick (yes e) = subst P (sym e) a
    pick (no d) = before q (omega arith)

pub first_found : (f : ℕ → Bool) (n from p : ℕ) → first_holding f n from ≡ Some p → First f n from p
unfolding first_holding found_or
first_found f zero from p e = absurd (at_nothing (sym e))
first_found f (suc n) from p e = pick (f from) refl e (first_found f n (from + 1) p)
  where
    pick : (b : Bool) → f from ≡ b → found_or b from (first_holding f n (from + 1)) ≡ Some p
        → (first_holding f n (from + 1) ≡ Some p → First f n (from + 1) p)
        → First f (suc n) from p
    pick true t g rec =
        let s : from ≡ p = at_same g in record {
          low = omega arith;
          high = omega arith;
          holds = subst (λ (x : ℕ). f x ≡ true) s t;
          fails = λ q l u. absurd (omega arith);
        }
    pick false t g rec =
        let r = rec g in record {
          low = omega arith;
          high = omega arith;
          holds = r.holds;
          fails = from_next (λ (q : ℕ). f q ≡ false) from p t r.fails;
        }

-- ---- nothing was found
pub first_nothing : (f : ℕ → Bool) (n from : ℕ) → first_holding f n from ≡ None → (q : ℕ) → from ≤ q → q < from + n
    → f q ≡ false
unfolding first_holding found_or
first_nothing f zero from e q l u = absurd (omega arith)
first_nothing f (suc n) from e q l u = pick (f from) refl e (first_nothing f n (from + 1))
  where
    pick : (b : Bool) → f from ≡ b → found_or b from (first_holding f n (from + 1)) ≡ None
        → (first_holding f n (from + 1) ≡ None → (x : ℕ) → from + 1 ≤ x → x < from + 1 + n → f x ≡ false)
        → f q ≡ false
    pick true t g rec = absurd (at_nothing g)
    pick false t g rec =
        from_next (λ (x : ℕ). f x ≡ false) from (from + suc n) t (λ x a b. rec g x a (omega arith)) q l u

-- ---- the same property, the same answer
pub first_same : (f g : ℕ → Bool) (n from : ℕ) → ((q : ℕ) → f q ≡ g q) → first_holding f n from ≡ first_holding g n from
unfolding first_holding
first_same f g zero from e = refl
first_same f g (suc n) from e = rw (e from, first_same f g n (from + 1) e)

-- ---- whether something was found
pub found_at : (f : Option ℕ) → is_some f ≡ true → (p : ℕ) × (f ≡ Some p)
found_at (Some p) e = (p, refl)
found_at None e = absurd (true_false (sym e))

pub found_not : (f : Option ℕ) → is_some f ≡ false → f ≡ None
found_not (Some p) e = absurd (true_false e)
found_not None e = refl
