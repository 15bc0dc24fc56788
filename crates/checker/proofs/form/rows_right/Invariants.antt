-- Each row passed is in range. Assumes nothing.
use Prim.Native.Nat.{ℕ, ◌<◌}
use Rattle.table.specs.Fields.{row_of, table_of}
use Rattle.table.specs.WellFormed.{RowInRange}
use Rattle.checker.proofs.form.rows_right.Given as goal

abbrev pub invariant-loop-i : goal.invariant-loop-i
invariant-loop-i l = (j : ℕ) → j < l.i → RowInRange (table_of l.image) (row_of l.image j)
