-- `machine::step` meets its contract: a row whose two tests fit comes to what its change does, and any other is blocked.
use mathlib.Core.Path.{sym, ap, ◌∙◌}
use Rattle.machine.specs.Step.{symbol_fits}
use Rattle.machine.proofs.Steps.{steps_on, blocked_symbol, blocked_test}
use Rattle.machine.proofs.step.Goals as goal

pub returns-then-counter_fits : goal.returns-then-counter_fits
returns-then-counter_fits c =
    steps_on _ _ _ _ _ _
    (sym (ap (symbol_fits _ _) c.seen-seen.ensures) ∙ sym c.symbol_fits.ensures ∙ c.if-symbol_fits.true)
    (sym c.counter_fits.ensures ∙ c.if-counter_fits.true)
    _ _ _ c.goes-next.ensures c.decr_on_zero-decr_on_zero.ensures c.changed.ensures

pub returns-else-counter_fits : goal.returns-else-counter_fits
returns-else-counter_fits c =
    blocked_test _ _ _ _ _ _
    (sym (ap (symbol_fits _ _) c.seen-seen.ensures) ∙ sym c.symbol_fits.ensures ∙ c.if-symbol_fits.true)
    (sym c.counter_fits.ensures ∙ c.if-counter_fits.false)

pub returns-else-symbol_fits : goal.returns-else-symbol_fits
returns-else-symbol_fits c =
    blocked_symbol _ _ _ _ _ _
    (sym (ap (symbol_fits _ _) c.seen-seen.ensures) ∙ sym c.symbol_fits.ensures ∙ c.if-symbol_fits.false)
