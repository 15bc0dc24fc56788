-- `judge::accepted` meets its contract. The loop's invariant: no state passed accepts in the marks.
use Rattle.std.proofs.Common.{refl, arith}
use Rattle.bits.proofs.Telling.{tells_no}
use Rattle.judge.proofs.Answers.{accepted_nowhere}
use Rattle.judge.proofs.accepted.Goals as goal

pub returns : goal.returns
returns c = tells_no refl (accepted_nowhere c.loop-state.state (omega arith) c.loop-state.invariant)
