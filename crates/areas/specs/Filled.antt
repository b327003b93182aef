-- A list whose places from i on are filled one after the other, as an array is in a loop: what holds of the places that
-- were filled, and that all others are as they were.
use Rattle.std.specs.Prelude.{ℕ, suc, ◌+◌, ◌≤◌, ◌<◌, ◌≡◌, refl, List, length, get_or, set}
use Rattle.std.proofs.Common.{sym, ◌∙◌, subst, arith, length-set, get_or-set_same, get_or-set_other}
use Rattle.std.proofs.Math.Decide.{ℕ_discrete}

-- the n places from i on hold what they should: R p v says that v may stand at p
pub record Filled {A : Type 0} (R : ℕ → A → Type 0) (d : A) (n i : ℕ) (before after : List A) : Type 0 where
  pub own : (p : ℕ) → i ≤ p → p < i + n → R p (get_or after p d)
  pub below : (p : ℕ) → p < i → get_or after p d ≡ get_or before p d
  pub above : (p : ℕ) → i + n ≤ p → get_or after p d ≡ get_or before p d
  pub as_long : length after ≡ length before

pub filled_none : {A : Type 0} (R : ℕ → A → Type 0) (d : A) (i : ℕ) (before : List A) → Filled R d 0 i before before
filled_none R d i before =
    record { own = λ p lo hi. absurd (omega arith); below = λ p h. refl; above = λ p h. refl; as_long = refl }

-- place i is filled, and then the n places after it
pub filled_one : {A : Type 0} (R : ℕ → A → Type 0) (d : A) (n i : ℕ) (v : A) (before after : List A) → i < length before
    → R i v → Filled R d n (i + 1) (set before i v) after
    → Filled R d (suc n) i before after
filled_one R d n i v before after l right f = record {
  own = own;
  below = λ p h. f.below p (omega arith) ∙ get_or-set_other before i p v d (omega arith);
  above = λ p h. f.above p (omega arith) ∙ get_or-set_other before i p v d (omega arith);
  as_long = f.as_long ∙ length-set before i v;
}
  where
    own : (p : ℕ) → i ≤ p → p < i + suc n → R p (get_or after p d)
    own p lo hi = pick (ℕ_discrete p i)
      where
        pick : Dec (p ≡ i) → R p (get_or after p d)
        pick (yes s) =
            let here : get_or after i d ≡ v = f.below i (omega arith) ∙ get_or-set_same before i v d l in
            subst (λ x. R x (get_or after x d)) (sym s) (subst (R i) (sym here) right)
        pick (no o) = f.own p (omega arith) (omega arith)
