-- `judge::pending::Hints::mark` meets its contract: a mark that was set, and one that was not.
use mathlib.Core.Path.{sym, ◌∙◌}
use Rattle.judge.proofs.Marking.{marked_same, marked_both}
use Rattle.judge.proofs.pending.Hints.mark.Goals as goal

pub returns-then-bit_at-eq1 : goal.returns-then-bit_at-eq1
returns-then-bit_at-eq1 c = sym (marked_same _ _ (sym c.bit_at.ensures ∙ c.if-bit_at-eq1.true))

pub returns : goal.returns
returns c = marked_both _ _ _ _ (λ one. c.if-bit_at-eq1.false (c.bit_at.ensures ∙ one)) c.set_bit.ensures c.set_bit-2.ensures
