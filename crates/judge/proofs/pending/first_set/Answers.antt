-- `judge::pending::first_set` meets its contract. The loop's invariant: the bytes passed are all 0.
use Rattle.std.proofs.Common.{arith}
use Rattle.judge.proofs.Bytes.{set_here}
use Rattle.judge.proofs.pending.first_set.Goals as goal

pub returns-then-b-gt0 : goal.returns-then-b-gt0
returns-then-b-gt0 c = set_here _ _ _ _ _ (omega arith) c.loop-at-test.true c.lowest.ensures.0 c.lowest.ensures.1
