-- The parts make the line.
use Rattle.line.proofs.Standing.{adds_both, adds_as, adds_stands}
use Rattle.line.proofs.Lines.{verdict_judged_line}
use Rattle.line.proofs.verdict.judged.Goals as goal

pub returns : goal.returns
returns c = adds_stands (adds_as (adds_both c.add-start.ensures c.number.ensures) (verdict_judged_line _ _ c.word_of.ensures.is))
