-- Each turn reads one digit more. Assumes nothing.
use Prim.Native.Nat.{◌≤◌}
use lib.ListN.{length}
use Rattle.programs.proofs.Saying.{Halfway}
use Rattle.programs.proofs.digits.limit_said.Given as goal

abbrev pub invariant-loop-digit : goal.invariant-loop-digit
invariant-loop-digit l = (1 ≤ length l.digits) × (length l.digits ≤ 3) × Halfway l.digits l.value l.digit-index
