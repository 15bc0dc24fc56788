-- A bit that is set is taken away from its byte. Assumes nothing.
use mathlib.Core.Path.{sym, ◌∙◌}
use Rattle.bits.proofs.Change.{bit_inside, cleared_enough, cleared_by_sub, cleared_already}
use Rattle.bits.proofs.clear_bit.Goals as goal

pub bounds-m-i : goal.bounds-m-i
bounds-m-i c = bit_inside _ _ (sym c.bit_at.ensures ∙ c.if-bit_at-eq1.true)

pub overflow_sub-m : goal.overflow_sub-m
overflow_sub-m c = cleared_enough _ _ (sym c.bit_at.ensures ∙ c.if-bit_at-eq1.true)

pub bounds-m-i-then-bit_at-eq1 : goal.bounds-m-i-then-bit_at-eq1
bounds-m-i-then-bit_at-eq1 c = bit_inside _ _ (sym c.bit_at.ensures ∙ c.if-bit_at-eq1.true)

pub returns-then-bit_at-eq1 : goal.returns-then-bit_at-eq1
returns-then-bit_at-eq1 c = cleared_by_sub _ _ (sym c.bit_at.ensures ∙ c.if-bit_at-eq1.true)

pub returns-else-bit_at-eq1 : goal.returns-else-bit_at-eq1
returns-else-bit_at-eq1 c = cleared_already _ _ (λ e. c.if-bit_at-eq1.false (c.bit_at.ensures ∙ e))
