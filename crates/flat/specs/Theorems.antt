-- Nothing is lost on the way to numbers and back, and nothing but a state is taken.
use Rattle.std.specs.Prelude.{ℕ, zero, suc, ◌≤◌, ◌<◌, ◌≡◌, refl, ◌≢◌, ◌↔◌, ◌⊎◌, List, ◌∷◌, length, get_or, Result, Ok}
use Rattle.std.proofs.Common.{sym, ap, ap₂, ◌∙◌, subst, inl, inr, ⊎_elim, arith}
use Rattle.std.proofs.Math.Decide.{dec_lt, ℕ_discrete}
use Rattle.std.proofs.lemmas.List.{take_all}
use Rattle.layout.specs.declared.Refusal.TheVariants.{State as StateRow}
use Rattle.layout.specs.declared.Refused.{Refused}
use Rattle.layout.specs.Contents.{refused}
use Rattle.layout.specs.Numbers.{answer_of, refused as number_refused}
use Rattle.treetracker.specs.declared.Next.{Next}
use Rattle.treetracker.specs.declared.Next.TheVariants.{Ended, Advance, Lookup}
use Rattle.treetracker.specs.declared.State.{State}
use Rattle.flat.specs.Flat.{kind_of, next_of, numbers_of, state_in, taken, not_taken, state_of}
use Rattle.flat.specs.FlatLaws.{not_fourteen, no_kind, is_taken, elements, elements_part}

-- ---- a list is its elements, one after the other
elements_of : (l : List ℕ) (k : ℕ) → length l ≡ k → elements l 0 k ≡ l
elements_of l k e = elements_part l 0 k (omega arith) ∙ take_all k l (omega arith)

-- ---- kinds
kind_most : (x : Next) → kind_of x ≤ 2
kind_most Ended = omega arith
kind_most Advance = omega arith
kind_most Lookup = omega arith

kind_back : (x : Next) → next_of (kind_of x) ≡ x
unfolding next_of
kind_back Ended = refl
kind_back Advance = refl
kind_back Lookup = refl

kind_forth : (k : ℕ) → k ≤ 2 → kind_of (next_of k) ≡ k
unfolding next_of
kind_forth zero h = refl
kind_forth (suc zero) h = refl
kind_forth (suc (suc zero)) h = refl
kind_forth (suc (suc (suc k))) h = absurd (omega arith)

-- ---- the two outcomes
data View (n : List ℕ) : Result State Refused → Type 0 where
  is : length n ≡ 14 → get_or n 0 0 ≤ 2 → View n (taken (state_in n))
  is_not : (length n ≢ 14) ⊎ (2 < get_or n 0 0) → View n not_taken

view : (n : List ℕ) → View n (state_of n)
view n = pick (ℕ_discrete (length n) 14) (dec_lt 2 (get_or n 0 0))
  where
    pick : Dec (length n ≡ 14) → Dec (2 < get_or n 0 0) → View n (state_of n)
    pick (no d) k = subst (View n) (sym (not_fourteen n d)) (is_not (inl d))
    pick (yes e) (yes h) = subst (View n) (sym (no_kind n e h)) (is_not (inr h))
    pick (yes e) (no d) = subst (View n) (sym (is_taken n e (omega arith))) (is e (omega arith))

-- ---- the theorems
-- a state comes back from its numbers; an array of eight chosen rows is a list of eight
pub back : (t : State) → length t.chosen ≡ 8 → state_of (numbers_of t) ≡ taken t
back t e =
    is_taken (numbers_of t) refl (kind_most t.next)
    ∙ ap₂ (λ (x : Next) (c : List ℕ).
    taken (record {
      next = x;
      at = t.at;
      start = t.start;
      chosen = c;
      steps = t.steps;
      lookups = t.lookups;
      records = t.records;
    })) (kind_back t.next) (elements_of t.chosen 8 e)

-- numbers that are taken come back from their state
pub forth : (n : List ℕ) (t : State) → state_of n ≡ Ok t → numbers_of t ≡ n
forth n t = from _ (view n)
  where
    from : (a : Result State Refused) → View n a → a ≡ Ok t → numbers_of t ≡ n
    from a (is l h) e =
        let same : state_in n ≡ t = cc in
        ap numbers_of (sym same) ∙ ap (λ (k : ℕ). k ∷ elements n 1 13) (kind_forth _ h) ∙ elements_of n 14 l
    from a (is_not d) e = cc

-- row 13 is given exactly if there are not 14 numbers or the kind is over 2
pub not_a_state : (n : List ℕ) → (state_of n ≡ refused StateRow 0) ↔ ((length n ≢ 14) ⊎ (2 < get_or n 0 0))
not_a_state n = (to _ (view n), from _ (view n))
  where
    to : (a : Result State Refused) → View n a → a ≡ refused StateRow 0 → (length n ≢ 14) ⊎ (2 < get_or n 0 0)
    to a (is l h) e = cc
    to a (is_not d) e = d

    from : (a : Result State Refused) → View n a → (length n ≢ 14) ⊎ (2 < get_or n 0 0) → a ≡ refused StateRow 0
    from a (is l h) d = absurd (⊎_elim (λ f. f l) (λ k. omega arith) d)
    from a (is_not d) e = refl

-- no other refusal is given, and one gives its number and place only
pub refused_alone : (n : List ℕ) → ((t : State) → state_of n ≢ Ok t) → state_of n ≡ not_taken
refused_alone n = from _ (view n)
  where
    from : (a : Result State Refused) → View n a → ((t : State) → a ≢ Ok t) → a ≡ not_taken
    from a (is l h) d = absurd (d _ refl)
    from a (is_not d) e = refl

-- the number of that row
pub thirteen : answer_of not_taken ≡ number_refused 13 0
thirteen = refl
