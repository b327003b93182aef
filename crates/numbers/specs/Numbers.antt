-- Numbers in a list of bytes (document 01, "The job file": "All numbers are little-endian", "Values are signed 32-bit,
-- two's complement").
use Rattle.std.specs.Prelude.{ℕ, ◌+◌, ◌*◌, ◌-◌, List, cond, length, get_or, ltb, leb, ℤ, pos, negsuc}

-- four bytes, lowest first
abbrev pub four_bytes : List ℕ → ℕ → ℕ
four_bytes s at = get_or s at 0 + 256 * get_or s (at + 1) 0 + 65536 * get_or s (at + 2) 0 + 16777216 * get_or s (at + 3) 0

-- the number at a place: 0 where its four bytes run past the end
unfoldable pub number_at : List ℕ → ℕ → ℕ
number_at s at = cond (leb (at + 4) (length s)) (four_bytes s at) 0

-- two's complement at 32 bits: below 2,147,483,648 a number is itself, any other is less by 4,294,967,296
unfoldable pub signed : ℕ → ℤ
signed n = cond (ltb n 2147483648) (pos n) (negsuc (4294967295 - n))

-- the value at a place
unfoldable pub value_at : List ℕ → ℕ → ℤ
value_at s at = signed (number_at s at)
