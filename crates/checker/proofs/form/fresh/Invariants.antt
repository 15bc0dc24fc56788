-- Each letter passed differs from letter c. Assumes nothing.
use Prim.Native.Nat.{ℕ, ◌<◌}
use mathlib.Core.Path.{◌≡◌}
use Rattle.table.specs.Fields.{letter_of}
use Rattle.checker.proofs.form.fresh.Given as goal

abbrev pub invariant-loop-d : goal.invariant-loop-d
invariant-loop-d l = (j : ℕ) → j < l.d → letter_of l.image j ≡ letter_of l.image l.c → ⊥
