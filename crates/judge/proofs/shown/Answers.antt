-- `judge::shown` meets its contract: the two questions and the count are asked of the marks.
use Rattle.judge.proofs.Found.{found_decided}
use Rattle.judge.proofs.shown.Goals as goal

pub returns : goal.returns
returns c = found_decided c.requires c.accepted-yes.ensures c.count_ones.ensures c.fits-marks c.verdict.ensures
