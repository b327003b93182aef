-- `find` over a range is the search of `First`: its answer is the first number of the range at which the property holds
-- that the closure tests. Each function that searches a range by `find` is proved by `find_first`.
use Prim.Native.Nat.{ℕ, ◌+◌, ◌-◌, ◌≤◌, ◌<◌}
use Rattle.std.specs.Prelude.{Option, Some, None, is_some, Bool, true, false, ◌||◌, ◌≡◌, List, [], ◌∷◌, length, get_or, take}
use Rattle.std.specs.Prelude.{MatchOption, zero, suc}
use Rattle.std.proofs.Common.{sym, ◌∙◌}
use native.Mathlib.Nat.{sub-zero}
use native.Mathlib.Omega.{arith}
use Rattle.std.proofs.Math.Path.{refl, ap}
use Rattle.std.proofs.Math.Decide.{dec_lt}
use denote.Param.Members.{Mut}
use denote.Ref.{Bor}
use Rattle.std.specs.declared.ops.Range.{Range}
use Rattle.std.specs.Bool.{⊤}
use Rattle.std.specs.Fn.{CalledAt}
use Rattle.std.specs.Iterator.{YieldsThen}
use Rattle.std.specs.List.{FoldsTo, list_any}
use Rattle.std.proofs.iter.Yields.{nat_range_steps}
use Rattle.std.proofs.lemmas.Iterator.{first_from_Range}
use Rattle.search.specs.Apart.{true_false}
use Rattle.search.specs.First.{found_or, first_holding}
use Rattle.search.specs.FirstLaws.{First, first_found, first_nothing}

-- what is known of the first number of a range that has a property, or of there being none, is what the search answers
pub first_is : (f : ℕ → Bool) (from end : ℕ) (r : Option ℕ)
    → MatchOption r ((k : ℕ) → from ≤ k → k < end → f k ≡ false)
    (λ i. (from ≤ i) × (i < end) × (f i ≡ true) × ((k : ℕ) → from ≤ k → k < i → f k ≡ false))
    → r ≡ first_holding f (end - from) from
first_is f from end r h = pick r (first_holding f (end - from) from) refl h
  where
    pick : (a b : Option ℕ) → first_holding f (end - from) from ≡ b
        → MatchOption a ((k : ℕ) → from ≤ k → k < end → f k ≡ false)
        (λ i. (from ≤ i) × (i < end) × (f i ≡ true) × ((k : ℕ) → from ≤ k → k < i → f k ≡ false))
        → a ≡ b
    pick None None e m = refl
    pick None (Some q) e m =
        let t = first_found f (end - from) from q e in
        absurd (true_false (sym t.holds ∙ m q t.low (omega (arith, t.high))))
    pick (Some p) None e m =
        absurd (true_false (sym m.2 ∙ first_nothing f (end - from) from e p m.0 (omega (arith, m.1))))
    pick (Some p) (Some q) e m =
        let t = first_found f (end - from) from q e in
        one t (dec_lt p q) (dec_lt q p)
      where
        one : First f (end - from) from q → Dec (p < q) → Dec (q < p) → Some p ≡ Some q
        one t (yes l) d = absurd (true_false (sym m.2 ∙ t.fails p m.0 l))
        one t (no n) (yes l) = absurd (true_false (sym t.holds ∙ m.3 q t.low l))
        one t (no n) (no l) = let e : p ≡ q = omega arith in ap Some e

-- `find` over a range, by its clause `ran`: where the closure's answer is f's, so is the search's
pub find_first : {F : Type 0} {g : Mut F (Bor ℕ × Unit {0}) Bool} (s u : Range ℕ) (c : F) (r : Option ℕ) (f : ℕ → Bool)
    → (xs : List ℕ) × (j : F) × YieldsThen nat_range_steps s xs r u × FoldsTo (λ p x q. CalledAt g p x false q) c xs j
    × MatchOption r ⊤ (λ x. (h : F) × CalledAt g j x true h)
    → ((x : ℕ) (q : F) → CalledAt g c x true q → f x ≡ true)
    → ((x : ℕ) (q : F) → CalledAt g c x false q → (q ≡ c) × (f x ≡ false))
    → r ≡ first_holding f (s.end - s.start) s.start
find_first s u c r f ran yes' no' =
    first_is f s.start s.end r
    (first_from_Range s u c r (λ x. f x ≡ true) (λ x. f x ≡ false) ran yes' no')

-- the same for a range from 0 on
pub find_from_zero : {F : Type 0} {g : Mut F (Bor ℕ × Unit {0}) Bool} (n : ℕ) (u : Range ℕ) (c : F) (r : Option ℕ)
    (f : ℕ → Bool)
    → (xs : List ℕ) × (j : F) × YieldsThen nat_range_steps (record { start = 0; end = n }) xs r u
    × FoldsTo (λ p x q. CalledAt g p x false q) c xs j
    × MatchOption r ⊤ (λ x. (h : F) × CalledAt g j x true h)
    → ((x : ℕ) (q : F) → CalledAt g c x true q → f x ≡ true)
    → ((x : ℕ) (q : F) → CalledAt g c x false q → (q ≡ c) × (f x ≡ false))
    → r ≡ first_holding f n 0
find_from_zero n u c r f ran yes' no' =
    find_first (record { start = 0; end = n }) u c r f ran yes' no' ∙ ap (λ (m : ℕ). first_holding f m 0) (sub-zero n)

-- ---- whether one of the first n elements of a list passes a test, as `any` and `contains` say it
pub any_is_some : (test : ℕ → Bool) (xs : List ℕ) (n : ℕ) → n ≤ length xs → (f : ℕ → Bool) (from : ℕ)
    → ((q : ℕ) → q < n → f (from + q) ≡ test (get_or xs q 0))
    → list_any test (take n xs) ≡ is_some (first_holding f n from)
unfolding first_holding found_or
any_is_some test xs zero l f from e = refl
any_is_some test [] (suc n) l f from e = absurd (omega arith)
any_is_some test (x ∷ xs) (suc n) l f from e =
    pick (f from) (test x) (ap f (omega arith) ∙ e 0 (omega arith))
    (any_is_some test xs n (omega arith) f (from + 1) (λ q h. ap f (omega arith) ∙ e (suc q) (omega arith)))
  where
    pick : (a b : Bool) → a ≡ b → list_any test (take n xs) ≡ is_some (first_holding f n (from + 1))
        → b || list_any test (take n xs) ≡ is_some (found_or a from (first_holding f n (from + 1)))
    pick true true h rec = refl
    pick true false h rec = absurd (true_false h)
    pick false true h rec = absurd (true_false (sym h))
    pick false false h rec = rec

pub any_from_zero : (test : ℕ → Bool) (xs : List ℕ) (n : ℕ) → n ≤ length xs → (f : ℕ → Bool)
    → ((q : ℕ) → q < n → f q ≡ test (get_or xs q 0))
    → list_any test (take n xs) ≡ is_some (first_holding f n 0)
any_from_zero test xs n l f e = any_is_some test xs n l f 0 (λ q h. ap f (omega arith) ∙ e q h)
