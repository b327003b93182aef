-- How the code lays texts, as its tactics need it: a text copied to its place in one step, one text after another, and the
-- laws that a value, a line and a table need together.
use Rattle.std.specs.Prelude.{ℕ, ◌+◌, ◌-◌, ◌≤◌, ◌≡◌, List, ◌++◌, length}
use Rattle.std.proofs.Common.{arith, to_z-of_z, length-append}
use Rattle.std.proofs.Math.Seq.{drop-drop}
use Rattle.text.specs.DecimalLaws.{signed_negative, signed_whole}
use Rattle.areas.specs.Written.{written, written_then, written_none, Laid}
use Rattle.text.specs.LineLaws.{spaced_none, spaced_more, values_all}
use Rattle.text.specs.TableLaws.{cells_none, sizes_none, cells_more, sizes_more, texts_all}
use borrow.Rule.Slice.PartMut.{put_mid}

-- a text that is copied to its place is laid there: next is the place after it, and part what stands there then
pub laid_copied : (src before part : List ℕ) (at next : ℕ) → part ≡ src → next ≡ at + length src
    → Laid src before at (put_mid at (next - at) before part) next
unfolding written
laid_copied src before part at next e n =
    let k : next - at ≡ length src = omega arith in
    record { area = rw (e, k, drop-drop); past = n }

-- one text after another is the two joined
pub written_after : (xs : List ℕ) (at : ℕ) (ys : List ℕ) (p : ℕ) (zs : List ℕ) → p ≡ at + length ys → p ≤ length xs
    → written (written xs at ys) p zs ≡ written xs at (ys ++ zs)
written_after xs at ys p zs e h = rw e (written_then xs at ys (omega arith) zs)

-- a value's text by its sign and its size, the value as the code sees it, by its bits
pub ruleset signs = (to_z-of_z, signed_negative, signed_whole, written_after)

-- a text after another, and the place after both
pub ruleset one_after_another = (written_after, length-append)

-- the values of a line, one after the other
pub ruleset spaced = (spaced_none, spaced_more, values_all, written_none, written_after, length-append)

-- the texts of a file, one after the other
pub ruleset filled = (cells_none, sizes_none, cells_more, sizes_more, texts_all)
