-- Laws of the table of texts, in this order: no text yet, and one more; the lengths; that a text that is laid stands in
-- the table; and that the table is whole once all are laid.
use Rattle.std.specs.Prelude.{ℕ, zero, suc, ◌+◌, ◌*◌, ◌/◌, ◌≤◌, ◌<◌, ◌≡◌, refl}
use mathlib.Core.List.{List}
use Rattle.std.proofs.Common.{sym, ◌∙◌, arith, length-set}
use Rattle.std.proofs.Math.Path.{subst}
use Rattle.std.proofs.Math.Decide.{ℕ_discrete}
use Rattle.std.proofs.Math.Numerals.{add-one}
use Rattle.std.proofs.Math.ListN.{length, set}
use Rattle.std.proofs.Math.Seq.{get_or-set_same, get_or-set_other}
use Rattle.numbers.specs.Numbers.{value_at}
use Rattle.text.specs.DecimalLaws.{value_length}
use Rattle.text.specs.Text.{signed_text, cells_after, sizes_after, TextAt, Texts}
use Rattle.areas.specs.Written.{written, written_length, written_here, written_before}

-- ---- nothing yet, and one more text
pub cells_none : (s cells : List ℕ) → cells_after s cells 0 ≡ cells
unfolding cells_after
cells_none s cells = refl

pub sizes_none : (s sizes : List ℕ) → sizes_after s sizes 0 ≡ sizes
unfolding sizes_after
sizes_none s sizes = refl

pub cells_more : (s cells : List ℕ) (w : ℕ)
    → cells_after s cells (w + 1) ≡ written (cells_after s cells w) (12 * w) (signed_text (value_at s (4 * w)))
unfolding cells_after
cells_more s cells w = rw add-one

pub sizes_more : (s sizes : List ℕ) (w : ℕ)
    → sizes_after s sizes (w + 1) ≡ set (sizes_after s sizes w) w (length (signed_text (value_at s (4 * w))))
unfolding sizes_after
sizes_more s sizes w = rw add-one

-- ---- cells and sizes stay as long as they were
cells_length : (s cells : List ℕ) (w : ℕ) → 12 * w ≤ length cells → length (cells_after s cells w) ≡ length cells
unfolding cells_after
cells_length s cells zero h = refl
cells_length s cells (suc w) h =
    let e : length (cells_after s cells w) ≡ length cells = cells_length s cells w (omega arith) in
    written_length (cells_after s cells w) (12 * w) (signed_text (value_at s (4 * w)))
    (omega (arith, value_length s (4 * w)))
    ∙ e

sizes_length : (s sizes : List ℕ) (w : ℕ) → length (sizes_after s sizes w) ≡ length sizes
unfolding sizes_after
sizes_length s sizes zero = refl
sizes_length s sizes (suc w) =
    length-set (sizes_after s sizes w) w (length (signed_text (value_at s (4 * w)))) ∙ sizes_length s sizes w

-- ---- a text that is laid stands in the table, and those before it stay
module _ (s cells sizes : List ℕ) (w : ℕ) (room : 12 * w + 12 ≤ length cells) (place : w < length sizes) where
  -- the text at w
  own : List ℕ
  own = signed_text (value_at s (4 * w))

  text_here : TextAt s (written cells (12 * w) own) (set sizes w (length own)) w
  unfolding own
  text_here = record {
    size = grind (arith, get_or-set_same {A = ℕ});
    text = grind (arith, get_or-set_same {A = ℕ}, written_here);
  }

  text_kept : (v : ℕ) → v < w → TextAt s cells sizes v
      → TextAt s (written cells (12 * w) own) (set sizes w (length own)) v
  unfolding own
  text_kept v h t = record {
    size = grind (arith, t.size, get_or-set_other {A = ℕ});
    text = grind (arith, t.size, t.text, get_or-set_other {A = ℕ}, written_before, value_length);
  }

  texts_more : ((v : ℕ) → v < w → TextAt s cells sizes v) → (v : ℕ) → v < suc w
      → TextAt s (written cells (12 * w) (signed_text (value_at s (4 * w))))
      (set sizes w (length (signed_text (value_at s (4 * w))))) v
  unfolding own
  texts_more first v h = pick (ℕ_discrete v w)
    where
      pick : Dec (v ≡ w) → TextAt s (written cells (12 * w) own) (set sizes w (length own)) v
      pick (yes e) = subst (TextAt s (written cells (12 * w) own) (set sizes w (length own))) (sym e) text_here
      pick (no d) = text_kept v (omega arith) (first v (omega arith))

-- the first w texts stand in the table
texts_first : (s cells sizes : List ℕ) (w : ℕ) → 12 * w ≤ length cells → w ≤ length sizes → (v : ℕ) → v < w
    → TextAt s (cells_after s cells w) (sizes_after s sizes w) v
unfolding cells_after sizes_after
texts_first s cells sizes zero h k v l = absurd (omega arith)
texts_first s cells sizes (suc w) h k v l =
    let a : length (cells_after s cells w) ≡ length cells = cells_length s cells w (omega arith) in
    let b : length (sizes_after s sizes w) ≡ length sizes = sizes_length s sizes w in
    texts_more s (cells_after s cells w) (sizes_after s sizes w) w (omega arith) (omega arith)
    (texts_first s cells sizes w (omega arith) (omega arith)) v l

-- ---- once all are laid, the table is whole
pub texts_all : (s cells sizes : List ℕ) (n : ℕ) → n ≡ length s / 4 → 3 * length s ≤ length cells
    → length s ≤ 4 * length sizes
    → Texts s (cells_after s cells n) (sizes_after s sizes n)
texts_all s cells sizes n e c d =
    let a : length (cells_after s cells n) ≡ length cells = cells_length s cells n (omega arith) in
    let b : length (sizes_after s sizes n) ≡ length sizes = sizes_length s sizes n in
    record {
      of = λ w h. texts_first s cells sizes n (omega arith) (omega arith) w (omega arith);
      cells_room = omega arith;
      sizes_room = omega arith;
    }
