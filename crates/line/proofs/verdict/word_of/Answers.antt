-- What is answered is the verdict's word.
use Rattle.std.proofs.Common.{◌++◌, sym, ap}
use Rattle.bits.specs.Byte.{spelling}
use Rattle.judgement.specs.declared.answer.Verdict.{Verdict}
use Rattle.line.specs.VerdictLine.{verdict_word}
use Rattle.line.proofs.verdict.word_of.Goals as goal

pub returns-in-Yes-clause-is : goal.returns-in-Yes-clause-is
unfolding verdict_word
returns-in-Yes-clause-is c = ap (λ (v : Verdict). verdict_word v ++ spelling " ") (sym c.in-Yes.is)

pub returns-in-No-clause-is : goal.returns-in-No-clause-is
unfolding verdict_word
returns-in-No-clause-is c = ap (λ (v : Verdict). verdict_word v ++ spelling " ") (sym c.in-No.is)

pub returns-in-LimitMet-clause-is : goal.returns-in-LimitMet-clause-is
unfolding verdict_word
returns-in-LimitMet-clause-is c = ap (λ (v : Verdict). verdict_word v ++ spelling " ") (sym c.in-LimitMet.is)
