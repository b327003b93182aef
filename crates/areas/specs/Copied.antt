-- The first places of one list copied over the front of another, as a loop that copies leaves it: one place more, what
-- stands where, and the length.
use Rattle.std.specs.Prelude.{ℕ, ◌+◌, ◌-◌, ◌≤◌, ◌<◌, ◌≡◌, List, ◌++◌, length, get_or, set, take, drop}
use Rattle.std.proofs.Common.{sym, ap, ◌∙◌, arith, zero-add, add-one, length-append, length-drop, length-take-le}
use Rattle.std.proofs.Common.{get_or-take, get_or-drop, get_or-append-add}
use Rattle.std.proofs.Math.ListN.{get_or-append}
use Rattle.std.proofs.Math.Seq.{paste-suc}

-- the first n of s over the front of d
abbrev pub copied {ℓ} : {A : Type ℓ} → ℕ → List A → List A → List A
copied n s d = take n s ++ drop n d

pub copied_next {ℓ} : {A : Type ℓ} (n : ℕ) (s d : List A) (z : A) → n < length s → n < length d
    → set (copied n s d) n (get_or s n z) ≡ copied (n + 1) s d
copied_next n s d z h l = rw add-one (simp zero-add at (paste-suc d 0 s n z (rw zero-add l) h))

module _ {ℓ} {A : Type ℓ} (n : ℕ) (s d : List A) (h : n ≤ length s) (l : n ≤ length d) where
  pub copied_length : length (copied n s d) ≡ length d
  copied_length =
      let a : length (take n s) ≡ n = length-take-le n s h in
      rw (length-append, length-drop, a) (omega arith)

  pub copied_below : (i : ℕ) (z : A) → i < n → get_or (copied n s d) i z ≡ get_or s i z
  copied_below i z u =
      let a : length (take n s) ≡ n = length-take-le n s h in
      get_or-append (take n s) (drop n d) z i (omega arith) ∙ get_or-take n s i z u

  pub copied_above : (i : ℕ) (z : A) → n ≤ i → get_or (copied n s d) i z ≡ get_or d i z
  copied_above i z u =
      let a : length (take n s) ≡ n = length-take-le n s h in
      let e : length (take n s) + (i - n) ≡ i = omega arith in
      let f : n + (i - n) ≡ i = omega arith in
      ap (λ (x : ℕ). get_or (copied n s d) x z) (sym e)
      ∙ get_or-append-add (take n s) (drop n d) (i - n) z
      ∙ get_or-drop n d (i - n) z
      ∙ ap (λ (x : ℕ). get_or d x z) f
