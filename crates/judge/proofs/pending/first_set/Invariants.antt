-- `judge::pending::first_set` meets its contract. The loop's invariant: the bytes passed are all 0.
use Rattle.ones.specs.Blank.{Blank}
use Rattle.judge.proofs.pending.first_set.Given as goal

abbrev pub invariant-loop-at : goal.invariant-loop-at
invariant-loop-at l = Blank l.marks l.from l.at
