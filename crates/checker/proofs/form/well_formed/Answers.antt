-- All parts. Assumes nothing.
use Rattle.std.proofs.Common.{rules}
use Rattle.checker.proofs.Decided.{parts_told}
use Rattle.checker.proofs.form.well_formed.Goals as goal

pub returns-then-no_other_bit : goal.returns-then-no_other_bit
returns-then-no_other_bit c = parts_told _ (λ i. (c.type_inv.image i).fits) (search rules)

pub returns-else-no_other_bit : goal.returns-else-no_other_bit
returns-else-no_other_bit c = parts_told _ (λ i. (c.type_inv.image i).fits) (search rules)
