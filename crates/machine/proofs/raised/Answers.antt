-- `machine::raised` meets its contract: the sum is compared with the limit without being formed first.
use mathlib.Core.Path.{sym}
use native.Mathlib.Omega.{arith}
use Rattle.machine.proofs.Fits.{outcome_within, outcome_above}
use Rattle.machine.proofs.raised.Goals as goal

pub returns-then-limit-by : goal.returns-then-limit-by
returns-then-limit-by c = sym (outcome_above _ _ _ (omega arith))

pub returns-then-limit-by-2 : goal.returns-then-limit-by-2
returns-then-limit-by-2 c = sym (outcome_above _ _ _ (omega arith))

pub returns : goal.returns
returns c = sym (outcome_within _ _ _ (omega arith))
