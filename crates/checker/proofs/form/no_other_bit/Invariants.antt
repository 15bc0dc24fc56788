-- No state passed that does not exist accepts. Assumes nothing.
use Prim.Native.Nat.{ℕ, ◌≤◌, ◌<◌}
use Rattle.table.specs.Table.{Accepting}
use Rattle.table.specs.Fields.{table_of}
use Rattle.checker.proofs.form.no_other_bit.Given as goal

abbrev pub invariant-loop-s : goal.invariant-loop-s
invariant-loop-s l = (j : ℕ) → j < l.s → l.initial.s ≤ j → ¬ Accepting (table_of l.image) j
