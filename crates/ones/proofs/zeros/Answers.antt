-- `ones::zeros` meets its contract: what was gathered tells. Assumes nothing.
use Rattle.std.proofs.Common.{rules}
use Rattle.ones.proofs.Counting.{zeros_told}
use Rattle.ones.proofs.zeros.Goals as goal

pub returns : goal.returns
returns c = zeros_told _ _ (search rules)
