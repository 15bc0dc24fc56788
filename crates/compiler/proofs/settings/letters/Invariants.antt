-- The loop's invariant: the letters so far are in the image.
use Prim.Native.Nat.{◌-◌}
use mathlib.Core.Path.{◌≡◌}
use lib.ListN.{length}
use Rattle.compiler.proofs.Setting.{ListsSoFar}
use Rattle.compiler.proofs.settings.letters.Given as goal

abbrev pub invariant-loop-cursor : goal.invariant-loop-cursor
invariant-loop-cursor l =
    (length l.out ≡ length l.initial.out)
    × (l.cursor.text.now ≡ l.initial.cursor.text.now)
    × ListsSoFar l.initial.cursor.text.now l.initial.out l.out l.initial.cursor.at l.cursor.at l.count

abbrev pub decreases-loop-cursor : goal.decreases-loop-cursor
decreases-loop-cursor l = 16 - l.count
