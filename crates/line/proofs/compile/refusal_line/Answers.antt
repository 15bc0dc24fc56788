-- A number has at most 21 bytes with the byte behind it, and the parts make the line.
use Rattle.std.proofs.Common.{arith}
use Rattle.line.proofs.Standing.{adds_both, adds_as, adds_stands}
use Rattle.line.proofs.Lines.{number_short, compile_refused_line}
use Rattle.line.proofs.compile.refusal_line.Goals as goal

pub number-requires : goal.number-requires
number-requires c = omega (arith, number_short _ _ c.number-first.ensures)

pub returns : goal.returns
returns c =
    adds_stands
    (adds_as (adds_both c.add-start.ensures (adds_both c.number-first.ensures c.number.ensures)) (compile_refused_line _ _))
