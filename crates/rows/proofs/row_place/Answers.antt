-- Where row i stands, and past the end the end. Assumes nothing.
use mathlib.Core.Path.{ap}
use Rattle.table.specs.Fields.{row_from}
use Rattle.table.proofs.Reading.{place_inside, place-past}
use Rattle.rows.proofs.row_place.Goals as goal

pub returns-then-i-image : goal.returns-then-i-image
returns-then-i-image c = ap (row_from _) (place_inside c.args.image.now _ _ c.first_row.ensures)

pub returns-else-i-image : goal.returns-else-i-image
returns-else-i-image c = place-past c.args.image.now _ c.if-i-image.false
