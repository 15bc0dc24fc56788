-- Eight bytes to a row. Assumes nothing.
use Rattle.table.proofs.Reading.{wide_is}
use Rattle.rows.proofs.row_bytes.Goals as goal

pub returns : goal.returns
returns c = wide_is c.args.image.now
