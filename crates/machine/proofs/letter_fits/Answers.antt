-- `machine::letter_fits` meets its contract: a code past the letters is none, and any other is compared.
use mathlib.Core.Path.{sym}
use native.Mathlib.Omega.{arith}
use Rattle.machine.proofs.Fits.{letter_past, letter_compared}
use Rattle.machine.proofs.letter_fits.Goals as goal

pub returns-then-letter_count-at : goal.returns-then-letter_count-at
returns-then-letter_count-at c = sym (letter_past _ _ _ (omega arith))

pub returns-then-image-at : goal.returns-then-image-at
returns-then-image-at c = sym (letter_past _ _ _ (omega arith))

pub returns : goal.returns
returns c = letter_compared _ _ _ _ _ (omega arith) c.from-at.ensures c.letter_at.ensures
