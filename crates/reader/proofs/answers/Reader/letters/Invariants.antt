-- `reader::answers::Reader::letters` meets its contract: each turn of the loop takes a letter and a comma.
use Prim.Native.Nat.{◌-◌}
use mathlib.Core.List.{[], ◌∷◌}
use lib.ListN.{length}
use Rattle.rule.specs.Inside.Machine as Machine
use Rattle.reader.specs.Inside.Answers.{alphabet_of, before, Arrives}
use Rattle.reader.proofs.answers.Reader.letters.Given as goal

abbrev pub invariant-loop-behind : goal.invariant-loop-behind
invariant-loop-behind l =
    Arrives l.self.text.now (before l.self (Machine.letters ∷ []) []) (Machine.letters ∷ []) (alphabet_of l.listed) l.reader

abbrev pub decreases-loop-behind : goal.decreases-loop-behind
decreases-loop-behind l = length l.reader.text.now - l.reader.at
