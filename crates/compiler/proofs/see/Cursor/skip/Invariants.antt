-- The loop's invariant: the cursor is behind so many tokens as turns were taken.
use Prim.Native.Nat.{◌≤◌}
use mathlib.Core.Path.{◌≡◌}
use mathlib.Core.List.{List}
use lib.ListN.{length, drop}
use Rattle.text.specs.Tokens.{Placed}
use Rattle.compiler.specs.Inside.Seeing.{Here, Reaches}
use Rattle.compiler.proofs.see.Cursor.skip.Given as goal

abbrev pub invariant-loop : goal.invariant-loop
invariant-loop l =
    (l.self.text ≡ l.initial.self.text)
    × ((ts : List Placed) → Here l.initial.self.text.now l.initial.self.at ts → l.many ≤ length ts → Reaches l.initial.self.text.now l.initial.self.at l.counter l.self.at (drop l.counter ts))
