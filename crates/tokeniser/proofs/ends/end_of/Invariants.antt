-- `tokeniser::ends::end_of` meets its contract. The loop's invariant: wherever the run from here ends, the whole run does.
use Prim.Native.Nat.{ℕ}
use Rattle.tokeniser.specs.Inside.Tokenising.{Answers, Run}
use Rattle.tokeniser.proofs.ends.end_of.Given as goal

abbrev pub invariant-loop-i : goal.invariant-loop-i
invariant-loop-i g l = (test : _) → Answers (goal.F-post g l.goes_on) test → (n : ℕ) → Run test l.text l.i n → Run test l.text l.from n
