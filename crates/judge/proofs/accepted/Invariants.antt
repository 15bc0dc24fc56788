-- `judge::accepted` meets its contract. The loop's invariant: no state passed accepts in the marks.
use Prim.Native.Nat.{ℕ, ◌<◌}
use Rattle.table.specs.Fields.{table_of}
use Rattle.judge.specs.Inside.Inner.{AcceptsIn}
use Rattle.judge.proofs.accepted.Given as goal

abbrev pub invariant-loop-state : goal.invariant-loop-state
invariant-loop-state l = (s : ℕ) → s < l.state → ¬ AcceptsIn (table_of l.image) l.marks s
