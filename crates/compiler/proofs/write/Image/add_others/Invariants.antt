-- The loop's invariant: the rows of the first symbols are written.
use mathlib.Core.Path.{◌≡◌}
use Rattle.compiler.proofs.AtomRows.{Partly}
use Rattle.compiler.proofs.write.Image.add_others.Given as goal

abbrev pub invariant-loop-i : goal.invariant-loop-i
invariant-loop-i l =
    (l.self.out.ghost_name ≡ l.initial.self.out.ghost_name)
    × Partly l.initial.self.out.now l.initial.self.row l.left_out l.from l.to l.i l.self.out.now l.self.row
