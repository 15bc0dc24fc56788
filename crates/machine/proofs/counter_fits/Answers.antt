-- `machine::counter_fits` meets its contract: each answer is the test of its case.
use mathlib.Core.Path.{sym}
use Rattle.machine.proofs.Fits.{counter_either, counter_zero, counter_above}
use Rattle.machine.proofs.counter_fits.Goals as goal

pub returns-then-either : goal.returns-then-either
returns-then-either c = sym (counter_either _ _ c.if-either.true)

pub returns-then-counter-eq0 : goal.returns-then-counter-eq0
returns-then-counter-eq0 c = sym (counter_zero _ _ c.if-either.false c.if-counter-eq0.true)

pub returns-else-counter-eq0 : goal.returns-else-counter-eq0
returns-else-counter-eq0 c = sym (counter_above _ _ c.if-either.false c.if-counter-eq0.false)
