-- `ones::ones_in` meets its contract: bytes that are 0 have no ones. Assumes nothing.
use Rattle.ones.proofs.Counting.{zeros_ones}
use Rattle.ones.proofs.ones_in.Goals as goal

pub returns-then-zeros : goal.returns-then-zeros
returns-then-zeros c = zeros_ones _ (c.zeros.ensures.holds c.if-zeros.true)
