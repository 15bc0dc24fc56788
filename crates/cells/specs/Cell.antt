-- The cells of a word of n letters: the left mark on 0, the letters on 1 to n, the right mark on n + 1.
use Rattle.std.specs.Prelude.{ℕ, zero, suc, ◌+◌, ◌-◌, min, cond, List, length, get_or, ltb, eqb}
use Rattle.table.specs.Form.{to_left, no_move, to_right}

pub data Symbol : Type 0 where
  left_mark : Symbol
  letter : ℕ → Symbol
  right_mark : Symbol

-- the right mark's cell
abbrev pub last : List ℕ → ℕ
last word = length word + 1

-- what stands on a cell; a cell past n + 1 is taken as n + 1
unfoldable pub symbol_on : List ℕ → ℕ → Symbol
symbol_on word zero = left_mark
symbol_on word (suc i) = cond (ltb i (length word)) (letter (get_or word i 0)) right_mark

-- where a row's move leads from a cell: to a mark, else by what the code is above or below `no_move`, stopping at 0 and n + 1
unfoldable pub moved : List ℕ → ℕ → ℕ → ℕ
moved word code cell =
    cond (eqb code to_left) 0 (cond (eqb code to_right) (last word) (min (min cell (last word) + code - no_move) (last word)))
