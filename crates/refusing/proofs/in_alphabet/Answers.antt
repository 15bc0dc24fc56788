-- A letter that is the byte, or none. Assumes that the alphabet has its letters.
use Rattle.std.proofs.Common.{arith, refl}
use Rattle.bits.proofs.Telling.{tells_yes, tells_no}
use Rattle.refusing.proofs.Letters.{letter_found, letter_nowhere}
use Rattle.refusing.proofs.in_alphabet.Goals as goal

pub returns-then-letter_at-b : goal.returns-then-letter_at-b
returns-then-letter_at-b c = tells_yes refl (letter_found _ _ c.requires _ _ (omega arith) c.letter_at.ensures c.if-letter_at-b.true)

pub returns : goal.returns
returns c = tells_no refl (letter_nowhere _ _ c.requires c.loop-c.c (omega arith) c.loop-c.invariant)
