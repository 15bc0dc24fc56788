-- `judge::search::Search::run` meets its contract. The loop's invariant: the search is between two situations; the measure: how many are left.
use Rattle.judge.proofs.Picking.{begins-between, picked_waiting, expand_falls}
use Rattle.judge.proofs.search.Search.run.Goals as goal

pub loop-i-init : goal.loop-i-init
loop-i-init c =
    begins-between c.requires c.told-marks c.mark.ensures

pub loop-i-smaller : goal.loop-i-smaller
loop-i-smaller c =
    expand_falls (picked_waiting c.requires.sources c.loop-i.invariant c.in-Some.ensures) c.expand-over.ensures
