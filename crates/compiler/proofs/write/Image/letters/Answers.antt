-- The sixth byte of an image is the low byte of its letters' number. Assumes nothing.
use native.Mathlib.Omega.{arith}
use Rattle.compiler.proofs.Writing.{held_long, held_count}
use Rattle.compiler.proofs.write.Image.letters.Goals as goal

pub bounds-self-6 : goal.bounds-self-6
bounds-self-6 c = omega (arith, held_long c.requires.holds)

pub returns : goal.returns
returns c = record { counts = λ holds. held_count holds }
