-- The cycle of calls of the readers of blocks and statements. Each call is nearer to the text's end, or of lower rank at the same
-- byte: statements above a statement, arms and what is guarded above a block.
use mathlib.Core.List.{[], ◌∷◌}
use lib.ListN.{length}
use Rattle.rule.specs.Inside.Machine.{block, statements, arms, or_also}
use Rattle.reader.specs.Inside.Answers.{alphabet_of, before, Arrives}
use Prim.Native.Nat.{◌+◌, ◌*◌, ◌-◌, ◌≤◌}
use Rattle.reader.proofs.answers.Reader.+statements.Given as goal

abbrev pub decreases-block : goal.decreases-block
decreases-block l = 2 * (length l.self.text.now - l.self.at)

abbrev pub decreases-behind_branch : goal.decreases-behind_branch
decreases-behind_branch l = 2 * (length l.self.text.now - l.self.at) + 1

abbrev pub invariant-behind_branch-loop-also : goal.invariant-behind_branch-loop-also
invariant-behind_branch-loop-also l =
    Arrives
    l.self.text.now
    (before l.self (block l.scope.depth ∷ arms l.scope.depth 1 ∷ []) (alphabet_of l.scope.letters))
    (or_also l.scope.depth l.arms ∷ [])
    (alphabet_of l.scope.letters)
    l.arm
    × (2 ≤ l.arms)
    × (l.arms ≤ 8)

abbrev pub decreases-behind_branch-loop-also : goal.decreases-behind_branch-loop-also
decreases-behind_branch-loop-also l = length l.arm.text.now - l.arm.at

abbrev pub decreases-guarded : goal.decreases-guarded
decreases-guarded l = 2 * (length l.self.text.now - l.self.at) + 1

abbrev pub decreases-behind_if : goal.decreases-behind_if
decreases-behind_if l = 2 * (length l.self.text.now - l.self.at)

abbrev pub decreases-statement : goal.decreases-statement
decreases-statement l = 2 * (length l.self.text.now - l.self.at)

abbrev pub decreases-statements : goal.decreases-statements
decreases-statements l = 2 * (length l.self.text.now - l.self.at) + 1

abbrev pub invariant-statements-loop-behind : goal.invariant-statements-loop-behind
invariant-statements-loop-behind l =
    Arrives
    l.self.text.now
    (before l.self (statements l.scope.depth ∷ []) (alphabet_of l.scope.letters))
    (statements l.scope.depth ∷ [])
    (alphabet_of l.scope.letters)
    l.reader

abbrev pub decreases-statements-loop-behind : goal.decreases-statements-loop-behind
decreases-statements-loop-behind l = length l.reader.text.now - l.reader.at

abbrev pub decreases-behind_while : goal.decreases-behind_while
decreases-behind_while l = 2 * (length l.self.text.now - l.self.at)
