-- A number has at most 21 bytes with the byte behind it, and the parts make the line.
use Rattle.std.proofs.Common.{arith}
use Rattle.line.proofs.Standing.{adds_both, adds_as, adds_stands}
use Rattle.line.proofs.Lines.{number_short, verdict_refused_line}
use Rattle.line.proofs.verdict.refused.Goals as goal

pub number-second-requires : goal.number-second-requires
number-second-requires c = omega (arith, number_short _ _ c.number-first.ensures)

pub add-requires : goal.add-requires
add-requires c = omega (arith, c.meaning.ensures.short, number_short _ _ c.number-first.ensures, number_short _ _ c.number-second.ensures)

pub returns : goal.returns
returns c =
    adds_stands
    (adds_as
    (adds_both c.add-start.ensures (adds_both c.number-first.ensures (adds_both c.number-second.ensures (adds_as c.add.ensures c.meaning.ensures.is))))
    (verdict_refused_line _ _))
