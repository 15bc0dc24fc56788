-- The cycle of calls of `condition` and `operand`. Each call is nearer to the text's end, and a condition's first operand is read from
-- where the condition is.
use mathlib.Core.List.{[], ◌∷◌}
use lib.ListN.{length}
use Rattle.rule.specs.Inside.Machine.{operand, tail}
use Rattle.reader.specs.Inside.Answers.{alphabet_of, before, Arrives}
use Prim.Native.Nat.{◌+◌, ◌*◌, ◌-◌}
use Rattle.reader.proofs.answers.Reader.+conditions.Given as goal

abbrev pub decreases-condition : goal.decreases-condition
decreases-condition l = 2 * (length l.self.text.now - l.self.at) + 1

abbrev pub invariant-condition-loop-read : goal.invariant-condition-loop-read
invariant-condition-loop-read l =
    Arrives
    l.self.text.now
    (before l.self (operand l.scope.depth ∷ tail l.scope.depth ∷ []) (alphabet_of l.scope.letters))
    (operand l.scope.depth ∷ tail l.scope.depth ∷ [])
    (alphabet_of l.scope.letters)
    l.reader

abbrev pub decreases-condition-loop-read : goal.decreases-condition-loop-read
decreases-condition-loop-read l = length l.reader.text.now - l.reader.at

abbrev pub decreases-operand : goal.decreases-operand
decreases-operand l = 2 * (length l.self.text.now - l.self.at)
