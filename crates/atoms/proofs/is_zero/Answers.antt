-- `atoms::is_zero` meets its contract, by how many digits there are.
use mathlib.Core.Path.{◌∙◌}
use borrow.Author.Tests.{ne_eqb}
use Rattle.atoms.proofs.Zero.{one_zero, more_not_zero}
use Rattle.atoms.proofs.is_zero.Goals as goal

pub returns-then-digits-eq1 : goal.returns-then-digits-eq1
returns-then-digits-eq1 c = one_zero c.args.digits.now c.requires c.if-digits-eq1.true

pub returns-else-digits-eq1 : goal.returns-else-digits-eq1
returns-else-digits-eq1 c = ne_eqb _ 1 c.if-digits-eq1.false ∙ more_not_zero c.args.digits.now c.requires c.if-digits-eq1.false
