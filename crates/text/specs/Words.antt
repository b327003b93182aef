-- Quoted words as bytes.
use Prim.Native.Char.{code}
use Rattle.std.specs.Prelude.{ℕ, List, [], ◌∷◌}
use Prim.Native.String.{String, [] as empty, ◌∷◌ as ◌then◌}

-- the bytes of a quoted text, one for each of its characters: all texts here are ASCII
abbrev pub bytes_of : String → List ℕ
bytes_of empty = []
bytes_of (c then s) = code c ∷ bytes_of s
