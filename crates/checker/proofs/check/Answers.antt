-- `checker::check` meets its contract. Assumes nothing.
use mathlib.Core.Path.{refl}
use Rattle.checker.specs.Check.{well_formed, malformed, answer_of}
use Rattle.checker.proofs.check.Goals as goal

pub returns-then-well_formed : goal.returns-then-well_formed
unfolding answer_of
returns-then-well_formed c = record { answer = well_formed; right = c.well_formed-2.ensures.holds c.if-well_formed.true; is = refl }

pub returns-else-well_formed : goal.returns-else-well_formed
unfolding answer_of
returns-else-well_formed c = record { answer = malformed; right = c.well_formed-2.ensures.fails c.if-well_formed.false; is = refl }
