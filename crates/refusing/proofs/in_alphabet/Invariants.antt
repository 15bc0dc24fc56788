-- No letter passed is the byte. Assumes that the alphabet has its letters.
use Prim.Native.Nat.{ℕ, ◌<◌}
use mathlib.Core.Path.{◌≡◌}
use Rattle.table.specs.Fields.{letter_of}
use Rattle.refusing.proofs.in_alphabet.Given as goal

abbrev pub invariant-loop-c : goal.invariant-loop-c
invariant-loop-c l = (k : ℕ) → k < l.c → ¬ (letter_of l.image k ≡ l.b)
