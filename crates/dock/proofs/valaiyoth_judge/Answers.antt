-- `dock::valaiyoth_judge` meets its contract: the number is that of the judge's answer. Assumes nothing.
use Rattle.judgement.proofs.Answered.{answers_judged, answers_refused}
use Rattle.dock.proofs.valaiyoth_judge.Goals as goal

pub judged_number-requires : goal.judged_number-requires
judged_number-requires c = (answers_judged c.in-Ok.ensures).0

pub refused_number-requires : goal.refused_number-requires
refused_number-requires c = (answers_refused c.in-Err.ensures).0

pub returns-in-Ok : goal.returns-in-Ok
returns-in-Ok c = rw c.judged_number.ensures (answers_judged c.in-Ok.ensures).1

pub returns-in-Err : goal.returns-in-Err
returns-in-Err c = rw c.refused_number.ensures (answers_refused c.in-Err.ensures).1
