-- The number before the last six digits tells which line it is.
use Rattle.std.proofs.Common.{sym, ap, rules}
use Rattle.judgement.specs.declared.answer.Verdict.TheVariants.{Yes, No, LimitMet}
use Rattle.judgement.specs.Verdict.{verdict_number}
use Rattle.line.specs.VerdictLine.{verdict_line}
use Rattle.line.proofs.Standing.{stands_as}
use Rattle.line.proofs.Lines.{answer_judged, answer_refused}
use Rattle.line.proofs.verdict.verdict_line.Goals as goal

pub returns-in-1 : goal.returns-in-1
unfolding verdict_number
returns-in-1 c = stands_as c.judged.ensures (ap verdict_line (sym (answer_judged Yes _ _ c.in-1.is)))

pub returns-in-2 : goal.returns-in-2
unfolding verdict_number
returns-in-2 c = stands_as c.judged-in-2.ensures (ap verdict_line (sym (answer_judged No _ _ c.in-2.is)))

pub returns-in-3 : goal.returns-in-3
unfolding verdict_number
returns-in-3 c = stands_as c.judged-in-3.ensures (ap verdict_line (sym (answer_judged LimitMet _ _ c.in-3.is)))

pub returns-in_default : goal.returns-in_default
returns-in_default c = stands_as c.refused.ensures (ap verdict_line (sym (answer_refused _ _ (search rules) (search rules) (search rules))))
