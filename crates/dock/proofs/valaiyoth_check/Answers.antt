-- `dock::valaiyoth_check` meets its contract: the number is that of the check's answer. Assumes nothing.
use Rattle.std.proofs.Common.{arith}
use Rattle.checker.proofs.Checks.{answers_well, answers_refused}
use Rattle.dock.proofs.valaiyoth_check.Goals as goal

pub refused_number-requires : goal.refused_number-requires
refused_number-requires c = omega (arith, (answers_refused c.in-Err.ensures).0)

pub returns-in-Ok : goal.returns-in-Ok
returns-in-Ok c = answers_well c.in-Ok.ensures

pub returns-in-Err : goal.returns-in-Err
returns-in-Err c = rw c.refused_number.ensures (answers_refused c.in-Err.ensures).1
