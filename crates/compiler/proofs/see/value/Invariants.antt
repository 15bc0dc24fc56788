-- The loop's invariant: the value so far and the digits that are left give the whole value.
use Rattle.compiler.proofs.Seeing.{Counting}
use Rattle.compiler.proofs.see.value.Given as goal

abbrev pub invariant-loop-digit : goal.invariant-loop-digit
invariant-loop-digit l = Counting l.digits l.value l.digit-index
