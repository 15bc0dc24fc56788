-- A row of the code as a row of the definitions.
use Rattle.table.specs.declared.Row as Code
use Rattle.table.specs.Table.{Row}

abbrev pub row_is : Code.Row → Row
row_is r =
    record { from = r.from; symbol = r.symbol; test = r.test; move = r.motion; change = r.change; to = r.to }
