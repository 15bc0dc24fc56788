-- A row of the definitions is one row of the code.
use mathlib.Core.Path.{◌≡◌}
use Rattle.table.specs.declared.Row as Code
use Rattle.table.specs.RowCode.{row_is}

-- `row_is` is one-to-one: a promise of `row_is r` leaves no second r
pub row_once : {a b : Code.Row} → row_is a ≡ row_is b → a ≡ b
row_once same = λ i. record {
  from = (same i).from;
  symbol = (same i).symbol;
  test = (same i).test;
  motion = (same i).move;
  change = (same i).change;
  to = (same i).to;
}
