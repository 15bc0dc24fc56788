-- `tokeniser::token_at` meets its contract. The loop's invariant: what comes first from here comes first in all.
use Prim.Native.Nat.{◌-◌}
use lib.ListN.{length}
use Rattle.text.specs.First.{FirstToken}
use Rattle.text.specs.declared.Token.{Token}
use Rattle.tokeniser.proofs.token_at.Given as goal

abbrev pub invariant-loop-at : goal.invariant-loop-at
invariant-loop-at l = (r : Token) → FirstToken l.text l.at r → FirstToken l.text l.from r

abbrev pub decreases-loop-at : goal.decreases-loop-at
decreases-loop-at l = length l.text - l.at
