-- One digit more, and the first.
use Rattle.std.proofs.Common.{arith, ◌-◌, ◌∙◌}
use Rattle.line.proofs.Decimal.{digits_step, digits_first, less_tenth}
use Rattle.line.proofs.parts.digits_at_end.Goals as goal

pub loop-left-preserved : goal.loop-left-preserved
loop-left-preserved c =
    let less = less_tenth c.loop-left.start c.loop-left.left c.loop-left-test.true c.loop-left.invariant.room in
    record {
      some = omega (arith, less.0);
      within = omega arith;
      room = less.1;
      same =
          digits_step c.loop-left.start (c.loop-left.start - 1) c.loop-left.left c.loop-left.digits (omega arith) (omega arith) c.loop-left-test.true
          ∙ c.loop-left.invariant.same;
    }

pub returns-clause-digits : goal.returns-clause-digits
returns-clause-digits c =
    digits_first c.loop-left.start (c.loop-left.start - 1) c.loop-left.left c.loop-left.digits (omega arith) (omega arith) (omega arith)
    ∙ c.loop-left.invariant.same
