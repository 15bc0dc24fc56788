-- The eight bytes of a row, from where it is read. Assumes nothing.
use mathlib.Core.Path.{◌∙◌}
use Rattle.table.proofs.Reading.{row_is_lem}
use Rattle.rows.proofs.cut_row.Goals as goal

pub returns : goal.returns
returns c =
    row_is_lem
    _
    _
    _
    c.two_at.ensures
    c.byte_at.ensures
    c.byte_at-2.ensures
    c.byte_at-3.ensures
    c.byte_at-4.ensures
    c.two_at-2.ensures
    ∙ c.place_of-place.ensures.1
