-- A row's fitting by its parts; any symbol and either counter fit.
use Prim.Native.Nat.{ℕ, min}
use mathlib.Core.Path.{◌≡◌, refl}
use mathlib.Core.Bool.{true, ◌&&◌, or-true, and-eq-true_iff}
use mathlib.Core.List.{List}
use lib.ListN.{length, get_or}
use lib.Dec.{eqb, ltb}
use borrow.Author.Tests.{eqb-true, eq-eqb}
use Rattle.table.specs.Form as Form
use Rattle.table.specs.Table.{Row, Table}
use Rattle.cells.specs.Cell.{Symbol, left_mark, letter, right_mark, symbol_on}
use Rattle.machine.specs.Step.{Situation, symbol_fits, counter_fits, row_fits}

-- a row fits: it starts from the state, and both its tests pass
pub record Fits (t : Table) (word : List ℕ) (r : Row) (s : Situation) : Type 0 where
  pub state : r.from ≡ s.state
  pub symbol : symbol_fits t.alphabet r.symbol (symbol_on word s.cell) ≡ true
  pub counter : counter_fits r.test s.counter ≡ true

module _ {t : Table} {word : List ℕ} {r : Row} {s : Situation} where
  -- its parts make it fit
  pub fits_row : Fits t word r s → row_fits t word r s ≡ true
  unfolding row_fits
  fits_row f = (and-eq-true_iff _ _).1 (eq-eqb _ _ f.state, (and-eq-true_iff _ _).1 (f.symbol, f.counter))

  -- and where it fits it has them
  pub row_fits_lem : row_fits t word r s ≡ true → Fits t word r s
  unfolding row_fits
  row_fits_lem e =
      let first = (and-eq-true_iff (eqb r.from s.state) _).0 e in
      let rest = (and-eq-true_iff (symbol_fits t.alphabet r.symbol (symbol_on word s.cell)) _).0 first.1 in
      record { state = eqb-true _ _ first.0; symbol = rest.0; counter = rest.1 }

-- the code of any symbol fits each
pub any_fits : (alphabet : List ℕ) (symbol : Symbol) → symbol_fits alphabet Form.any_symbol symbol ≡ true
unfolding symbol_fits
any_fits alphabet left_mark = refl
any_fits alphabet (letter b) = or-true (ltb Form.any_symbol (length alphabet) && eqb (get_or alphabet Form.any_symbol 0) b)
any_fits alphabet right_mark = refl

-- and that of either counter
pub either_fits : (counter : ℕ) → counter_fits Form.either_counter counter ≡ true
unfolding counter_fits
either_fits counter = or-true (eqb Form.either_counter (min counter 1))
