-- The kinds of a byte, each by the range that it falls in, and the bytes of a quoted text.
use Rattle.std.specs.Prelude.{ℕ, Bool, ◌&&◌, ◌||◌, List, [], ◌∷◌, leb}
use Prim.Native.String.{String}
use Prim.Native.Char.{code}

abbrev pub between : ℕ → ℕ → ℕ → Bool
between low high b = leb low b && leb b high

-- 0-9
abbrev pub is_digit : ℕ → Bool
is_digit = between 48 57

-- A-Z a-z
abbrev pub is_alphabetic : ℕ → Bool
is_alphabetic b = between 65 90 b || between 97 122 b

-- 0-9 A-Z a-z: what an alphabet's letter may be
abbrev pub is_letter : ℕ → Bool
is_letter b = is_digit b || is_alphabetic b

-- the bytes of a quoted text, one for each character (all that is quoted here is plain ASCII)
abbrev pub spelling : String → List ℕ
spelling String.[] = []
spelling (String.◌∷◌ c s) = code c ∷ spelling s
