-- The program's text in bytes (document 01, "The program"): numbers in signed decimal, the line of a record, the last
-- line and the line of a refusal; a text laid over an area; and a table that holds the text of each value of a file.
use Rattle.std.specs.Prelude.{ℕ, zero, suc, ◌+◌, ◌*◌, ◌/◌, ◌%◌, ◌≤◌, Bool, true, false, cond, List, [], ◌∷◌, ◌++◌, map, ◌≡◌}
use Rattle.std.specs.Prelude.{ltb, ℤ, pos, negsuc, length, get_or, set, take, drop}
use Rattle.areas.specs.Written.{written}
use Rattle.numbers.specs.Numbers.{value_at}
use Rattle.text.specs.Words.{bytes_of}

-- the decimal digits of n, most significant first, at most as many as `most` says
unfoldable pub text_in : ℕ → ℕ → List ℕ
text_in zero n = []
text_in (suc most) n = cond (ltb n 10) ((48 + n) ∷ []) (text_in most (n / 10) ++ ((48 + n % 10) ∷ []))

-- the decimal digits of a number of at most 64 bits: it has no more than 20
unfoldable pub text_of : ℕ → List ℕ
text_of n = text_in 20 n

-- a value in signed decimal: `-` before the digits of a negative one
unfoldable pub signed_text : ℤ → List ℕ
signed_text (pos n) = text_of n
signed_text (negsuc n) = bytes_of "-" ++ text_of (suc n)

-- values in signed decimal, one space between
unfoldable pub spaced_text : List ℤ → List ℕ
spaced_text [] = []
spaced_text (z ∷ []) = signed_text z
spaced_text (z ∷ (y ∷ zs)) = signed_text z ++ (bytes_of " " ++ spaced_text (y ∷ zs))

-- what stands before value i of a line: a space, and before the first nothing
unfoldable pub gap_text : ℕ → List ℕ
gap_text zero = []
gap_text (suc i) = bytes_of " "

-- value i of a line, with what stands before it
unfoldable pub field_text : ℕ → ℤ → List ℕ
field_text i z = gap_text i ++ signed_text z

-- the line of a record
unfoldable pub line_text : List ℤ → List ℕ
line_text zs = spaced_text zs ++ bytes_of "\n"

-- a word and a number
unfoldable pub count_text : List ℕ → ℕ → List ℕ
count_text word n = word ++ text_of n

-- what the last line starts with if the step limit stopped the run
unfoldable pub stopped_text : Bool → List ℕ
stopped_text true = bytes_of "stopped "
stopped_text false = []

-- the last line: whether the step limit stopped the run, its lookups, its records, the rows marked, and its steps
unfoldable pub summary_text : Bool → ℕ → ℕ → ℕ → ℕ → List ℕ
summary_text stopped lookups records marked steps =
    stopped_text stopped ++ count_text (bytes_of "lookups ") lookups ++ count_text (bytes_of " results ") records
    ++ count_text (bytes_of " marked ") marked ++ count_text (bytes_of " steps ") steps ++ bytes_of "\n"

-- the line of a refusal: its number and its place
unfoldable pub refused_text : ℕ → ℕ → List ℕ
refused_text number place = count_text (bytes_of "refused ") number ++ count_text (bytes_of " at ") place ++ bytes_of "\n"

-- the text of the value at place 4 * w of the file s: cells has 12 places for it, and sizes says how many of them are
-- the text
pub record TextAt (s cells sizes : List ℕ) (w : ℕ) : Type 0 where
  pub size : get_or sizes w 0 ≡ length (signed_text (value_at s (4 * w)))
  pub text : take (get_or sizes w 0) (drop (12 * w) cells) ≡ signed_text (value_at s (4 * w))

-- the texts of all values of the file s, and room for them
pub record Texts (s cells sizes : List ℕ) : Type 0 where
  pub of : (w : ℕ) → 4 * w + 4 ≤ length s → TextAt s cells sizes w
  pub cells_room : 3 * length s ≤ length cells
  pub sizes_room : length s ≤ 4 * length sizes

-- the cells, and the sizes, once the texts of the first w values of the file s were laid into them
unfoldable pub cells_after : List ℕ → List ℕ → ℕ → List ℕ
cells_after s cells zero = cells
cells_after s cells (suc w) = written (cells_after s cells w) (12 * w) (signed_text (value_at s (4 * w)))

unfoldable pub sizes_after : List ℕ → List ℕ → ℕ → List ℕ
sizes_after s sizes zero = sizes
sizes_after s sizes (suc w) = set (sizes_after s sizes w) w (length (signed_text (value_at s (4 * w))))

-- a place at which the file s holds a value: a multiple of 4, with four bytes there
pub record Placed (s : List ℕ) (place : ℕ) : Type 0 where
  pub fourth : place % 4 ≡ 0
  pub inside : place + 4 ≤ length s

-- the values of the file s at the first n of the given places
unfoldable pub values_at : List ℕ → List ℕ → ℕ → List ℤ
values_at s places n = map (value_at s) (take n places)
