-- The image of a table: tagged fields, a one-byte tag and a two-byte length before each value.
use Rattle.std.specs.Prelude.{ℕ, ◌/◌, ◌%◌, Bool, true, false, List, [], ◌∷◌, ◌++◌, length}
use Rattle.table.specs.Form.{first_edition}
use Rattle.table.specs.Table.{Row, Table}

-- a two-byte number has its high byte first
unfoldable pub two_bytes : ℕ → List ℕ
two_bytes n = n / 256 ∷ n % 256 ∷ []

unfoldable pub field : ℕ → List ℕ → List ℕ
field tag value = tag ∷ (two_bytes (length value) ++ value)

unfoldable pub row_bytes : Row → List ℕ
row_bytes r = two_bytes r.from ++ (r.symbol ∷ r.test ∷ r.move ∷ r.change ∷ two_bytes r.to)

unfoldable pub rows_bytes : List Row → List ℕ
rows_bytes [] = []
rows_bytes (r ∷ rs) = row_bytes r ++ rows_bytes rs

unfoldable pub flag : Bool → ℕ
flag true = 1
flag false = 0

-- the edition that tag 1 names
abbrev pub edition : Table → ℕ
edition T = first_edition

unfoldable pub encode : Table → List ℕ
encode T =
    field 1 (edition T ∷ [])
    ++ (field 2 T.alphabet
    ++ (field 3 (flag T.decr_on_zero ∷ [])
    ++ (field 4 (two_bytes T.states) ++ (field 5 T.accepting ++ field 6 (rows_bytes T.rows)))))
