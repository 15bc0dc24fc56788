-- The loop's invariant: what is left to look at says as much as all of it.
use Prim.Native.Nat.{◌-◌, ◌≤◌}
use lib.ListN.{length}
use mathlib.Core.List.{List}
use Rattle.text.specs.Tokens.{Placed}
use Rattle.compiler.specs.Inside.Seeing.{Here}
use Rattle.compiler.specs.Inside.Operators.{is_or}
use Rattle.compiler.proofs.Operators.{Looking}
use Rattle.compiler.proofs.see.Cursor.operator_ahead.Given as goal

abbrev pub invariant-loop-end : goal.invariant-loop-end
invariant-loop-end l = (l.depth ≤ l.at) × ((ts : List Placed) → Here l.self.text.now l.self.at ts → Looking l.self.text.now (is_or l.operator) ts l.at l.depth)

abbrev pub decreases-loop-end : goal.decreases-loop-end
decreases-loop-end l = length l.self.text.now - l.at
