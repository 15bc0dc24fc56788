-- `judge::pending::lowest` meets its contract.
use Rattle.judge.proofs.Bytes.{lowest_set}
use Rattle.judge.proofs.pending.lowest.Goals as goal

pub returns : goal.returns
returns c = let l = lowest_set 8 c.args.b c.ranges.b.fits c.requires in (l.low, l.set)
