-- No state passed that does not exist accepts, nor does one past the sixteen bytes. Assumes nothing.
use Rattle.std.proofs.Common.{arith, refl}
use Rattle.bits.proofs.Telling.{tells_yes}
use Rattle.checker.proofs.Decided.{others_all}
use Rattle.checker.proofs.form.no_other_bit.Goals as goal

pub returns : goal.returns
returns c = tells_yes refl (others_all _ c.state_count-s.ensures (λ j low past. c.loop-s.invariant j (omega arith) past))
