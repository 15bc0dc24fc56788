-- The byte is joined with the bit. Assumes nothing.
use mathlib.Core.Path.{sym}
use Rattle.bits.proofs.Change.{set_by_or, set_past}
use Rattle.bits.proofs.set_bit.Goals as goal

pub returns-then-at-m : goal.returns-then-at-m
returns-then-at-m c = set_by_or _ _

pub returns-else-at-m : goal.returns-else-at-m
returns-else-at-m c = sym (set_past _ _ c.if-at-m.false)
