-- `tokeniser::token_at` meets its contract. The loop's invariant: what comes first from here comes first in all.
use Rattle.tokeniser.proofs.Comes.{end_first, skips_first, step_blank}
use Rattle.tokeniser.proofs.token_at.Goals as goal

pub loop-at-preserved : goal.loop-at-preserved
loop-at-preserved c = λ r f.
    c.loop-at.invariant r
    (skips_first (step_blank c.args.text.now c.loop-at.at _ c.step_at.ensures c.in-Continue.is) f)

pub returns : goal.returns
returns c =
    c.loop-at.invariant _ (end_first c.args.text.now c.loop-at.at c.loop-at-test.false)
