-- The byte of letter c, or 0 past the alphabet. Assumes nothing.
use mathlib.Core.Path.{sym, ◌∙◌}
use Rattle.table.proofs.Reading.{letter_inside, letter_past}
use Rattle.fields.proofs.letter_at.Goals as goal

pub returns-then-c-letters : goal.returns-then-c-letters
returns-then-c-letters c = c.byte_at.ensures ∙ letter_inside _ _ (rw c.letters.ensures at c.if-c-letters.true)

pub returns-else-c-letters : goal.returns-else-c-letters
returns-else-c-letters c = sym (letter_past _ _ (rw c.letters.ensures at c.if-c-letters.false))
