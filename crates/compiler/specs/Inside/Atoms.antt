-- What the emitter's functions promise each other of an atom's rows. No caller relies on any of it.
use Rattle.std.specs.Prelude.{ℕ, ◌≡◌, Bool, true, false, not, List, [], ◌∷◌}
use Rattle.table.specs.Table.{Row}
use Rattle.atoms.specs.declared.Symbol.{Symbol}
use Rattle.atoms.specs.declared.Atom.{Atom}
use Rattle.table.specs.Form.{left_mark, right_mark, any_symbol, zero_counter, above_zero}
use Rattle.construction.specs.Construction.{test_row, index_in, all_symbols, without, symbol_rows}
use Rattle.compiler.specs.Inside.Writing.{Sheet, Holds}

-- a test of the counter walked as `==`, or as `!=`
abbrev pub counter_rows : Bool → ℕ → ℕ → List Row
counter_rows true p q = test_row any_symbol zero_counter p q ∷ []
counter_rows false p q = test_row any_symbol above_zero p q ∷ []

-- of what is read, by its code
abbrev pub read_rows : List ℕ → Bool → ℕ → ℕ → ℕ → List Row
read_rows alphabet true code p q = symbol_rows (code ∷ []) p q
read_rows alphabet false code p q = symbol_rows (without code (all_symbols alphabet)) p q

-- the code of a symbol
abbrev pub code_of : List ℕ → Symbol → ℕ
code_of alphabet (Symbol.Letter b place) = index_in alphabet b
code_of alphabet Symbol.Lend = left_mark
code_of alphabet Symbol.Rend = right_mark

-- a comparison with its sign is walked as `==`, or as `!=`
abbrev pub walked_as : Bool → Bool → Bool
walked_as true sign = sign
walked_as false sign = not sign

-- the rows of an atom with its sign
abbrev pub rows_of : Atom → Bool → List ℕ → ℕ → ℕ → List Row
rows_of (Atom.Read equal symbol) sign alphabet p q = read_rows alphabet (walked_as equal sign) (code_of alphabet symbol) p q
rows_of (Atom.Counter zero) sign alphabet p q = counter_rows (walked_as zero sign) p q

-- the code of a symbol over the alphabet of the image
pub record Codes (out : List ℕ) (symbol : Symbol) (code : ℕ) : Type 0 where
  pub is : {h : Sheet} {accepting : List ℕ} {rows : List Row} → Holds h accepting rows out → code ≡ code_of h.alphabet symbol
