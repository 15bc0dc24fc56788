-- The byte of tag 3. Assumes nothing.
use Rattle.table.proofs.Reading.{flag_inside}
use Rattle.fields.proofs.decr_on_zero.Goals as goal

pub returns : goal.returns
returns c = flag_inside _ (rw c.letters.ensures at c.byte_at.ensures)
