-- An image shows all its rows. Assumes nothing.
use Rattle.table.proofs.Showing.{shown_range}
use Rattle.rows.proofs.rows_of.Goals as goal

pub returns : goal.returns
returns c = shown_range c.args.source c.args.rows.now c.args.state c.first_row.ensures c.row_count.ensures c.row_bytes.ensures
