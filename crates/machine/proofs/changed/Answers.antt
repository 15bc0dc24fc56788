-- `machine::changed` meets its contract: a rise, a fall, and a fall below zero.
use Prim.Native.Nat.{◌+◌, ◌-◌, ◌<◌}
use native.Mathlib.Omega.{arith}
use mathlib.Core.Path.{◌≡◌, sym, ap, ◌∙◌}
use mathlib.Core.Option.{some}
use Rattle.table.specs.Form.{no_change}
use Rattle.machine.specs.Inside.Change.{outcome_of}
use Rattle.machine.proofs.Fits.{changed_up, changed_down, changed_stops, changed_dies}
use Rattle.machine.proofs.changed.Goals as goal

pub returns-then-by-ge-NO_CHANGE : goal.returns-then-by-ge-NO_CHANGE
returns-then-by-ge-NO_CHANGE c =
    c.raised.ensures ∙ ap (outcome_of _ _) (sym (changed_up _ _ _ _ c.from-by.ensures c.if-by-ge-NO_CHANGE.true))

pub returns-in-Some : goal.returns-in-Some
returns-in-Some c =
    let lowered : c.in-Some.lowered + 0 ≡ c.args.counter - (no_change - c.from-by.result) + 0 = omega (arith, c.in-Some.ensures.1) in
    c.raised-in-Some.ensures
    ∙ ap (outcome_of _ _) (ap some lowered ∙ sym (changed_down _ _ _ _ c.from-by.ensures c.if-by-ge-NO_CHANGE.false c.in-Some.ensures.0))

pub returns-in-None : goal.returns-in-None
returns-in-None c =
    let below : c.args.counter < no_change - c.from-by.result = omega (arith, c.in-None.ensures) in
    sym (changed_stops _ _ _ _ c.from-by.ensures _ _ below c.if-decr_on_zero.true)

pub returns-in-None-2 : goal.returns-in-None-2
returns-in-None-2 c =
    let below : c.args.counter < no_change - c.from-by.result = omega (arith, c.in-None.ensures) in
    sym (changed_dies _ _ _ _ c.from-by.ensures _ _ below c.if-decr_on_zero.false)
