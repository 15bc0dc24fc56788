-- The length of tag 6, in rows. Assumes nothing.
use Rattle.table.proofs.Reading.{count_is}
use Rattle.fields.proofs.row_count.Goals as goal

pub returns : goal.returns
returns c = count_is c.args.image.now _ (rw c.letters.ensures at c.two_at.ensures)
