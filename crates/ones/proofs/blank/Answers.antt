-- `ones::blank` meets its contract: the part tells. Assumes nothing.
use Rattle.ones.proofs.Counting.{blank_told}
use Rattle.ones.proofs.blank.Goals as goal

pub returns-else-end-from : goal.returns-else-end-from
returns-else-end-from c = blank_told _ _ _ _ c.min-end.ensures c.if-end-from.false c.zeros.ensures
