-- The cases of `next_of`, `is_state` and `state_of`, with plain facts for hypotheses; that a part of a list is its elements, one
-- after the other; and the state that a slice of 14 numbers gives when it is taken apart.
use Rattle.std.specs.Prelude.{ℕ, zero, suc, ◌+◌, ◌-◌, ◌≤◌, ◌<◌, ◌≡◌, refl, List, [], ◌∷◌, ◌≢◌, length, get_or, take, drop}
use Rattle.std.specs.Prelude.{Bool, true, false, cond, ◌&&◌, Some, None, Result, Ok, Err, MatchResult}
use Rattle.std.proofs.Common.{sym, ap, ap₂, ◌∙◌, arith, drop-cons, length-drop, length-take-le}
use Rattle.std.proofs.Math.Decide.{dec_lt}
use Rattle.std.specs.Array.{IsWholeChunk}
use Rattle.std.specs.Result.{result_ok}
use Rattle.std.specs.Option.{ok_or}
use borrow.Author.Tests.{eq-eqb, ne_eqb, le-leb, lt-leb}
use Rattle.layout.specs.declared.Refusal.TheVariants.{State as StateRow}
use Rattle.treetracker.specs.declared.Next.{Next}
use Rattle.treetracker.specs.declared.State.{State}
use Rattle.flat.specs.Flat.{next_of, next_if, state_in, state_if, taken, not_taken, is_state, state_of}

-- ---- the next step of a kind
pub some_next : (kind : ℕ) (next : Next) → next_if kind ≡ Some next → (kind ≤ 2) × (next ≡ next_of kind)
some_next kind next e = pick (dec_lt 2 kind)
  where
    pick : Dec (2 < kind) → (kind ≤ 2) × (next ≡ next_of kind)
    pick (yes h) = let z = lt-leb kind 2 h in cc
    pick (no h) = let l : kind ≤ 2 = omega arith in let z = le-leb kind 2 l in (l, cc)

pub no_next : (kind : ℕ) → next_if kind ≡ None → 2 < kind
no_next kind e = pick (dec_lt 2 kind)
  where
    pick : Dec (2 < kind) → 2 < kind
    pick (yes h) = h
    pick (no h) = let l : kind ≤ 2 = omega arith in let z = le-leb kind 2 l in cc

-- ---- the state that has these numbers
module _ (n : List ℕ) where
  pub length_not : length n ≢ 14 → is_state n ≡ false
  unfolding is_state
  length_not h = rw (ne_eqb _ _ h)

  pub kind_not : 2 < get_or n 0 0 → is_state n ≡ false
  unfolding is_state
  kind_not h = rw (lt-leb _ _ h) (neither _)
    where
      neither : (b : Bool) → b && false ≡ false
      neither true = refl
      neither false = refl

  pub is_one : length n ≡ 14 → get_or n 0 0 ≤ 2 → is_state n ≡ true
  unfolding is_state
  is_one e h = rw (eq-eqb _ _ e, le-leb _ _ h)

  -- not 14 of them
  pub not_fourteen : length n ≢ 14 → state_of n ≡ not_taken
  unfolding state_of
  not_fourteen h = rw (length_not h)

  -- a kind over 2
  pub no_kind : length n ≡ 14 → 2 < get_or n 0 0 → state_of n ≡ not_taken
  unfolding state_of
  no_kind e h = rw (kind_not h)

  pub is_taken : length n ≡ 14 → get_or n 0 0 ≤ 2 → state_of n ≡ taken (state_in n)
  unfolding state_of
  is_taken e h = rw (is_one e h)

-- the refusal where there is no state
pub or_refused : (n : List ℕ) → ok_or (state_if n) (record { refusal = StateRow; place = 0 }) ≡ state_of n
unfolding state_of
or_refused n = pick (is_state n)
  where
    pick : (b : Bool)
        → ok_or (cond b (Some (state_in n)) None) (record { refusal = StateRow; place = 0 })
        ≡ cond b (taken (state_in n)) not_taken
    pick true = refl
    pick false = refl

-- ---- a part of a list is its elements, one after the other
abbrev pub elements : List ℕ → ℕ → ℕ → List ℕ
elements l i zero = []
elements l i (suc k) = get_or l i 0 ∷ elements l (suc i) k

pub elements_part : (l : List ℕ) (i k : ℕ) → i + k ≤ length l → elements l i k ≡ take k (drop i l)
elements_part l i zero h = refl
elements_part l i (suc k) h =
    ap (λ (r : List ℕ). get_or l i 0 ∷ r) (elements_part l (suc i) k (omega arith))
    ∙ ap (take (suc k)) (sym (drop-cons l i 0 (omega arith)))

-- ---- an array of a slice's elements
module _ {E : Type 0} (xs : List ℕ) (k : ℕ) (r : Result (List ℕ) E)
    (m : MatchResult r (λ ys. IsWholeChunk xs ys k) (λ _. length xs ≢ k)) where
  pub chunk_some : (ys : List ℕ) → result_ok r ≡ Some ys → (length xs ≡ k) × (ys ≡ xs)
  chunk_some ys e = pick r m e
    where
      pick : (a : Result (List ℕ) E) → MatchResult a (λ ys. IsWholeChunk xs ys k) (λ _. length xs ≢ k)
          → result_ok a ≡ Some ys → (length xs ≡ k) × (ys ≡ xs)
      pick (Ok zs) w e = (w.long, (cc))
      pick (Err z) w e = cc

  pub chunk_none : result_ok r ≡ None → length xs ≢ k
  chunk_none e = pick r m e
    where
      pick : (a : Result (List ℕ) E) → MatchResult a (λ ys. IsWholeChunk xs ys k) (λ _. length xs ≢ k)
          → result_ok a ≡ None → length xs ≢ k
      pick (Ok zs) w e = cc
      pick (Err z) w e = w

-- ---- a slice of numbers taken apart: three, those between, and three
module _ (n : List ℕ) where
  pub between_threes : 6 ≤ length n → length (take (length n - 3 - 3) (drop 3 n)) + 6 ≡ length n
  between_threes h =
      omega (arith, length-drop 3 n, length-take-le (length n - 3 - 3) (drop 3 n) (omega (arith, length-drop 3 n)))

  pub taken_apart : (chosen : List ℕ) (next : Next) → length n ≡ 14 → next ≡ next_of (get_or n 0 0)
      → chosen ≡ take (length n - 3 - 3) (drop 3 n)
      → ◌≡◌ {A = State} (record {
        next = next;
        at = get_or n 1 0;
        start = get_or n 2 0;
        chosen = chosen;
        steps = get_or n (length n - 3) 0;
        lookups = get_or n (length n - 2) 0;
        records = get_or n (length n - 1) 0;
      }) (state_in n)
  taken_apart chosen next e f g =
      ap (λ (l : ℕ). with_these next chosen l) e
      ∙ ap₂ (λ (x : Next) (c : List ℕ). with_these x c 14) f
      (g ∙ ap (λ (l : ℕ). take (l - 3 - 3) (drop 3 n)) e ∙ sym (elements_part n 3 8 (omega arith)))
    where
      with_these : Next → List ℕ → ℕ → State
      with_these x c l = record {
        next = x;
        at = get_or n 1 0;
        start = get_or n 2 0;
        chosen = c;
        steps = get_or n (l - 3) 0;
        lookups = get_or n (l - 2) 0;
        records = get_or n (l - 1) 0;
      }
