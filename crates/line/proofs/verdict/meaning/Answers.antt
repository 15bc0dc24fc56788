-- What is answered is what the number means.
use Rattle.std.proofs.Common.{ℕ, ◌++◌, sym, ap, rules}
use Rattle.bits.specs.Byte.{spelling}
use Rattle.line.specs.VerdictLine.{meaning}
use Rattle.line.proofs.Lines.{meaning-last}
use Rattle.line.proofs.verdict.meaning.Goals as goal

pub returns-in-21-clause-is : goal.returns-in-21-clause-is
unfolding meaning
returns-in-21-clause-is c = ap (λ (n : ℕ). meaning n ++ spelling "\n") (sym c.in-21.is)

pub returns-in-22-clause-is : goal.returns-in-22-clause-is
unfolding meaning
returns-in-22-clause-is c = ap (λ (n : ℕ). meaning n ++ spelling "\n") (sym c.in-22.is)

pub returns-in-23-clause-is : goal.returns-in-23-clause-is
unfolding meaning
returns-in-23-clause-is c = ap (λ (n : ℕ). meaning n ++ spelling "\n") (sym c.in-23.is)

pub returns-in-24-clause-is : goal.returns-in-24-clause-is
unfolding meaning
returns-in-24-clause-is c = ap (λ (n : ℕ). meaning n ++ spelling "\n") (sym c.in-24.is)

pub returns-in_default-clause-is : goal.returns-in_default-clause-is
returns-in_default-clause-is c = meaning-last _ (search rules) (search rules) (search rules) (search rules)
