-- What an array's `map` gives, where the closure computes a function of its item and stays as it is: that function at
-- each item.
use Rattle.std.specs.Prelude.{ℕ, zero, suc, ◌+◌, ◌<◌, ◌≡◌, refl, List, [], ◌∷◌, length, get_or, drop, map}
use Rattle.std.proofs.Common.{sym, ap, ap₂, ◌∙◌, subst, arith, add-one, drop-cons}
use Rattle.std.proofs.lemmas.List.{drop_all}
use Rattle.std.specs.Array.{IsMapOf, MapsFrom}
use Rattle.std.specs.Fn.{Called}
use denote.Param.Members.{Mut}

-- where the closure's answer is h's
module _ {F A B : Type 0} {g : Mut F (A × Unit {0}) B} (f : F) (h : A → B) (xs : List A) (ys : List B)
    (same : (x : A) (y : B) (q : F) → Called g f (x, tt) y q → (q ≡ f) × (y ≡ h x)) where
  from_here : (n i : ℕ) (p : F) → p ≡ f → i + n ≡ length xs → i + n ≡ length ys → MapsFrom g p xs ys i n
      → drop i ys ≡ map h (drop i xs)
  from_here zero i p e l m t =
      drop_all i ys (omega (arith, m)) ∙ ap (map h) (sym (drop_all i xs (omega (arith, l))))
  from_here (suc n) i p e l m t =
      let (q, x, y, at_x, at_y, called, rest) = t in
      let (kept, is) = same x y q (subst (λ (r : F). Called g r (x, tt) y q) e called) in
      let here = ap₂ (λ (a : B) (rest : List B). a ∷ rest) (at_y.0 ∙ is ∙ ap h (sym at_x.0))
      (from_here n (i + 1) q kept (omega (arith, l)) (omega (arith, m)) rest) in
      first ys y (omega (arith, m)) ∙ here ∙ sym (ap (map h) (first xs x (omega (arith, l))))
    where
      first : {C : Type 0} (zs : List C) (d : C) → i < length zs → drop i zs ≡ get_or zs i d ∷ drop (i + 1) zs
      first zs d j = rw add-one (drop-cons zs i d j)

  pub maps_all : (n : ℕ) → length xs ≡ n → IsMapOf g f xs ys n → ys ≡ map h xs
  maps_all n l m = from_here n 0 f refl (omega (arith, l)) (omega (arith, m.long)) m.each

-- ---- a list of eight, item by item
pub eight_items : (xs : List ℕ) → length xs ≡ 8
    → xs ≡ get_or xs 0 0 ∷ get_or xs 1 0 ∷ get_or xs 2 0 ∷ get_or xs 3 0 ∷ get_or xs 4 0 ∷ get_or xs 5 0 ∷ get_or xs 6 0
    ∷ get_or xs 7 0 ∷ []
eight_items xs l =
    drop-cons xs 0 0 (omega arith)
    ∙ rw (
      drop-cons xs 1 0 (omega arith),
      drop-cons xs 2 0 (omega arith),
      drop-cons xs 3 0 (omega arith),
      drop-cons xs 4 0 (omega arith),
      drop-cons xs 5 0 (omega arith),
      drop-cons xs 6 0 (omega arith),
      drop-cons xs 7 0 (omega arith),
      drop_all 8 xs (omega arith),
    )
