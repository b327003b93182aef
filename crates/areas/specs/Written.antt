-- A list laid over an area at a place: the definitions, and what they say, in this order: nothing laid; the area's
-- length; one list after another; one number, and one more number of a list; what stands where the list was laid, and
-- before it; a tail of the area that was lent and is back.
use Rattle.std.specs.Prelude.{ℕ, ◌+◌, ◌-◌, ◌≤◌, ◌<◌, ◌≡◌, refl, get_or, set, take}
use mathlib.Core.List.{List, [], ◌∷◌, ◌++◌, append_assoc, append-nil}
use Rattle.std.proofs.Common.{sym, ap₂, ◌∙◌, subst, add-zero, add_assoc, add-one, arith, length-drop, take-append-drop}
use Rattle.std.proofs.Common.{drop_of_length-le, take_all, take-suc, take_at, drop_at}
use Rattle.std.proofs.Math.Path.{ap}
use Rattle.std.proofs.Math.ListN.{length, drop, length-append}
use Rattle.std.proofs.Math.Seq.{length-take-le, take-length, drop-drop, take-append_seam}
use Rattle.std.proofs.lemmas.List.{take-append-le, drop-append-le, set_split}
use Rattle.areas.specs.Copied.{copied}

-- ---- the definitions
-- ys laid over xs at a place
unfoldable pub written : List ℕ → ℕ → List ℕ → List ℕ
written xs at ys = take at xs ++ (ys ++ drop (at + length ys) xs)

-- a text is laid at a place: what the area holds afterwards, and the place after the text
pub record Laid (text before : List ℕ) (at : ℕ) (after : List ℕ) (next : ℕ) : Type 0 where
  pub area : after ≡ written before at text
  pub past : next ≡ at + length text

-- ---- nothing laid
pub written_none : (xs : List ℕ) (at : ℕ) → written xs at [] ≡ xs
unfolding written
written_none xs at = rw add-zero (take-append-drop at xs)

pub laid_none : (before : List ℕ) (at : ℕ) → Laid [] before at before at
laid_none before at = record { area = sym (written_none before at); past = sym (add-zero at) }

-- ---- the area stays as long
pub written_length : (xs : List ℕ) (at : ℕ) (ys : List ℕ) → at + length ys ≤ length xs
    → length (written xs at ys) ≡ length xs
unfolding written
written_length xs at ys h =
    let a : length (take at xs) ≡ at = length-take-le at xs (omega arith) in
    rw (length-append, length-append, length-drop, a) (omega arith)

pub laid_length : {text before after : List ℕ} {at next : ℕ} → next ≤ length before → Laid text before at after next
    → length after ≡ length before
laid_length {text} {before} {after} {at} h l =
    ap length l.area ∙ written_length before at text (omega (arith, l.past))

-- ---- two texts, one after the other, are one
module _ (xs : List ℕ) (at : ℕ) (ys : List ℕ) (fits : at + length ys ≤ length xs) where
  front_length : length (take at xs ++ ys) ≡ at + length ys
  front_length = rw (length-append, length-take-le at xs (omega arith))

  written_front : take (at + length ys) (written xs at ys) ≡ take at xs ++ ys
  unfolding written
  written_front =
      rw (← append_assoc (take at xs) ys (drop (at + length ys) xs)) (take_at (take at xs ++ ys) _ _ front_length)

  written_rest : (n : ℕ) → drop (at + length ys + n) (written xs at ys) ≡ drop (at + length ys + n) xs
  unfolding written
  written_rest n =
      rw (← append_assoc (take at xs) ys (drop (at + length ys) xs))
      (sym (drop-drop n (at + length ys) ((take at xs ++ ys) ++ drop (at + length ys) xs))
      ∙ ap (drop n) (drop_at (take at xs ++ ys) (drop (at + length ys) xs) (at + length ys) front_length)
      ∙ drop-drop n (at + length ys) xs)

  pub written_then : (zs : List ℕ) → written (written xs at ys) (at + length ys) zs ≡ written xs at (ys ++ zs)
  written_then zs =
      unfold written in
      (ap₂ (λ (a b : List ℕ). a ++ (zs ++ b)) written_front (written_rest (length zs))
      ∙ simp (append_assoc, length-append, add_assoc))

pub laid_then : {xs ys before middle after : List ℕ} {at p next : ℕ} → p ≤ length before → Laid xs before at middle p
    → Laid ys middle p after next
    → Laid (xs ++ ys) before at after next
laid_then {xs} {ys} {before} {middle} {after} {at} {p} {next} h l m = record {
  area = m.area
      ∙ ap₂ (λ (a : List ℕ) (n : ℕ). written a n ys) l.area l.past
      ∙ written_then before at xs (omega (arith, l.past)) ys;
  past = omega (arith, l.past, m.past, length-append xs ys);
}

-- the same text by another definition
pub laid_as : {xs ys before after : List ℕ} {at next : ℕ} → xs ≡ ys → Laid xs before at after next
    → Laid ys before at after next
laid_as {before = before} {after} {at} {next} e l = subst (λ (t : List ℕ). Laid t before at after next) e l

-- ---- one byte, and one more byte of a list
pub laid_byte : (before : List ℕ) (at b : ℕ) → at < length before → Laid (b ∷ []) before at (set before at b) (at + 1)
unfolding written
laid_byte before at b h = record { area = set_split before at b h ∙ rw (add-one at); past = refl }

pub laid_begun : (before : List ℕ) (at : ℕ) → Laid [] before at before (at + 0)
laid_begun before at = rw add-zero (laid_none before at)

pub laid_more : (src before middle : List ℕ) (at i : ℕ) → i < length src → at + i < length before
    → Laid (take i src) before at middle (at + i)
    → Laid (take (i + 1) src) before at (set middle (at + i) (get_or src i 0)) (at + (i + 1))
laid_more src before middle at i l room so =
    let long : length middle ≡ length before = laid_length (omega arith) so in
    let here : at + i < length middle = omega arith in
    let more = laid_then (omega arith) so (laid_byte middle (at + i) (get_or src i 0) here) in
    let text : take i src ++ (get_or src i 0 ∷ []) ≡ take (i + 1) src = sym (rw add-one (take-suc src i 0 l)) in
    rw (← add_assoc at i 1) (laid_as text more)

pub laid_whole : (src before after : List ℕ) (at i : ℕ) → i ≡ length src → Laid (take i src) before at after (at + i)
    → Laid src before at after (at + i)
laid_whole src before after at i e so = laid_as (ap (λ (n : ℕ). take n src) e ∙ take-length src) so

-- ---- what stands where the text was laid, and before it
pub written_here : (xs : List ℕ) (at : ℕ) (ys : List ℕ) → at ≤ length xs
    → take (length ys) (drop at (written xs at ys)) ≡ ys
unfolding written
written_here xs at ys h =
    ap (take (length ys)) (drop_at (take at xs) (ys ++ drop (at + length ys) xs) at (length-take-le at xs h))
    ∙ take-append_seam ys (drop (at + length ys) xs)

-- a part within the first of two lists
part_front : (a rest : List ℕ) (from size : ℕ) → from + size ≤ length a
    → take size (drop from (a ++ rest)) ≡ take size (drop from a)
part_front a rest from size h =
    let k : size ≤ length (drop from a) = rw length-drop (omega arith) in
    ap (take size) (drop-append-le from a rest (omega arith)) ∙ take-append-le size (drop from a) rest k

pub written_before : (xs : List ℕ) (at : ℕ) (ys : List ℕ) (from size : ℕ) → at ≤ length xs → from + size ≤ at
    → take size (drop from (written xs at ys)) ≡ take size (drop from xs)
unfolding written
written_before xs at ys from size h k =
    let front : length (take at xs) ≡ at = length-take-le at xs h in
    part_front (take at xs) (ys ++ drop (at + length ys) xs) from size (omega arith)
    ∙ sym (part_front (take at xs) (drop at xs) from size (omega arith))
    ∙ ap (λ (l : List ℕ). take size (drop from l)) (take-append-drop at xs)

-- ---- the tail of an area, lent to a function that copied k numbers over its front, and back
module _ (k : ℕ) (row : List ℕ) (at : ℕ) (xs ys : List ℕ) where
  tail_whole : take (length xs - at) (drop at xs) ≡ drop at xs
  tail_whole = take_all (length xs - at) (drop at xs) (rw length-drop (omega arith))

  tail_rest : drop (length xs - at) (drop at xs) ≡ []
  tail_rest = drop_of_length-le (drop at xs) {i = length xs - at} (rw length-drop (omega arith))

  pub tail_back : k ≤ length row → ys ≡ copied k row (take (length xs - at) (drop at xs))
      → take at xs ++ (ys ++ drop (length xs - at) (drop at xs)) ≡ written xs at (take k row)
  unfolding written
  tail_back h e = rw (tail_rest, append-nil, e, tail_whole, length-take-le k row h, drop-drop)
