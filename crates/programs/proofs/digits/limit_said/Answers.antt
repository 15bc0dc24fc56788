-- Each turn reads one digit more. Assumes nothing.
use Prim.Native.Nat.{ℕ, ◌+◌, ◌*◌}
use native.Mathlib.Omega.{arith}
use mathlib.Core.Path.{ap}
use Rattle.programs.proofs.Saying.{halfway_next, halfway_done}
use Rattle.programs.proofs.digits.limit_said.Goals as goal

pub loop-digit-preserved : goal.loop-digit-preserved
loop-digit-preserved c =
    let test = c.if-not-is_ascii_digit.ensures in
    let turn = c.loop-digit.invariant in
    let value = ap (λ (n : ℕ). 10 * c.loop-digit.value + n) c.from.ensures in
    (turn.0, turn.1, halfway_next _ _ _ turn.2 (omega arith) _ test.cases.0 test.cases.1 value)

pub returns : goal.returns
returns c =
    let turn = c.loop-digit.invariant in
    halfway_done turn.2 (omega arith) turn.0 turn.1
