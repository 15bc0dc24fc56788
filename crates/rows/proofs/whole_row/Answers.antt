-- The eight bytes of a row. Assumes that they stand there.
use mathlib.Core.Path.{refl}
use Rattle.table.proofs.Reading.{row_is_lem, last_two}
use Rattle.rows.proofs.whole_row.Goals as goal

pub returns : goal.returns
returns c =
    let a = c.args in
    row_is_lem a.rows.now a.at _ c.two.ensures refl refl refl refl (last_two a.rows.now a.at _ c.two-2.ensures)
