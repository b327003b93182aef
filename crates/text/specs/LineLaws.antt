-- Laws of a record's line: what stands before a value, one more value after the text of those before it, and
-- all of them.
use Rattle.std.specs.Prelude.{ℕ, zero, suc, ◌+◌, ◌≤◌, ◌<◌, List, [], ◌∷◌, ◌++◌, map, ◌≡◌, refl, ℤ, length, get_or, take}
use Rattle.std.proofs.lemmas.List.{map-append, length-map}
use Rattle.std.proofs.Common.{append_assoc, ap, ◌∙◌, add-one, arith, take-suc, take_all, length-take-le}
use Rattle.numbers.specs.Numbers.{value_at}
use Rattle.text.specs.Text.{spaced_text, gap_text, field_text, signed_text, values_at}

-- ---- what stands before a value
pub gap_later : (i : ℕ) → (i ≡ 0 → ⊥) → 32 ∷ [] ≡ gap_text i
unfolding gap_text
gap_later zero h = absurd (h refl)
gap_later (suc i) h = refl

pub no_gap : (i : ℕ) → i ≡ 0 → gap_text i ≡ []
unfolding gap_text
no_gap i e = rw e

-- ---- one more value
spaced_next : (zs : List ℤ) (z : ℤ) → spaced_text (zs ++ (z ∷ [])) ≡ spaced_text zs ++ field_text (length zs) z
unfolding spaced_text field_text gap_text
spaced_next [] z = refl
spaced_next (y ∷ []) z = refl
spaced_next (x ∷ (y ∷ zs)) z =
    ap (λ (l : List ℕ). signed_text x ++ (32 ∷ l)) (spaced_next (y ∷ zs) z) ∙ simp append_assoc

pub spaced_none : (s places : List ℕ) → spaced_text (values_at s places 0) ≡ []
unfolding spaced_text values_at
spaced_none s places = refl

pub spaced_more : (s places : List ℕ) (i : ℕ) → i < length places
    → spaced_text (values_at s places (i + 1))
    ≡ spaced_text (values_at s places i) ++ field_text i (value_at s (get_or places i 0))
unfolding values_at
spaced_more s places i h =
    let n : length (map (value_at s) (take i places)) ≡ i =
    length-map (take i places) (value_at s) ∙ length-take-le i places (omega arith) in
    let t : map (value_at s) (take (i + 1) places)
    ≡ map (value_at s) (take i places) ++ (value_at s (get_or places i 0) ∷ []) =
    rw (add-one, take-suc places i 0) (map-append (value_at s) (take i places) (get_or places i 0 ∷ [])) in
    ap spaced_text t
    ∙ spaced_next (map (value_at s) (take i places)) (value_at s (get_or places i 0))
    ∙ ap (λ (k : ℕ). spaced_text (map (value_at s) (take i places)) ++ field_text k (value_at s (get_or places i 0))) n

-- ---- all values
pub values_all : (s places : List ℕ) (n : ℕ) → length places ≤ n → values_at s places n ≡ map (value_at s) places
unfolding values_at
values_all s places n h = ap (map (value_at s)) (take_all n places h)
