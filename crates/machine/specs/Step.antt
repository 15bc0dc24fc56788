-- What one row does to a situation, with no limit in it. Both tests look at the situation before the step.
use Rattle.std.specs.Prelude.{ℕ, ◌+◌, ◌-◌, min, ◌≡◌, Bool, cond, ◌&&◌, ◌||◌, length, get_or, leb, ltb, eqb}
use Rattle.std.proofs.Math.Option.{Option, none, some}
use mathlib.Core.List.{List, Memᴰ}
use Rattle.table.specs.Form as Form
use Rattle.table.specs.Table.{Row, Table}
use Rattle.cells.specs.Cell.{Symbol, left_mark, letter, right_mark, symbol_on, moved}

pub record Situation : Type 0 where
  pub state : ℕ
  pub cell : ℕ
  pub counter : ℕ

-- whether a row's symbol, over this alphabet, is what stands on the cell
unfoldable pub symbol_fits : List ℕ → ℕ → Symbol → Bool
symbol_fits alphabet code left_mark = eqb code Form.left_mark || eqb code Form.any_symbol
symbol_fits alphabet code (letter b) = (ltb code (length alphabet) && eqb (get_or alphabet code 0) b) || eqb code Form.any_symbol
symbol_fits alphabet code right_mark = eqb code Form.right_mark || eqb code Form.any_symbol

-- whether a row's test (0 zero, 1 above zero, or either) fits the counter
unfoldable pub counter_fits : ℕ → ℕ → Bool
counter_fits test counter = eqb test (min counter 1) || eqb test Form.either_counter

-- the counter changed by what the code is above or below `no_change`; below zero it is zero where it stops there, and else the row can't be taken
unfoldable pub changed : Bool → ℕ → ℕ → Option ℕ
changed decr_on_zero code counter =
    cond (leb Form.no_change (counter + code)) (some (counter + code - Form.no_change)) (cond decr_on_zero (some 0) none)

unfoldable pub row_fits : Table → List ℕ → Row → Situation → Bool
row_fits t word r s =
    eqb r.from s.state
    && (symbol_fits t.alphabet r.symbol (symbol_on word s.cell) && counter_fits r.test s.counter)

-- `after` is `before` with this row taken
pub record Takes (t : Table) (word : List ℕ) (r : Row) (before after : Situation) : Type 0 where
  pub fits : row_fits t word r before ≡ Bool.true
  pub state : after.state ≡ r.to
  pub cell : after.cell ≡ moved word r.move before.cell
  pub counter : changed t.decr_on_zero r.change before.counter ≡ some after.counter

pub record Step (t : Table) (word : List ℕ) (before after : Situation) : Type 0 where
  pub row : Row
  pub listed : Memᴰ row t.rows
  pub takes : Takes t word row before after
