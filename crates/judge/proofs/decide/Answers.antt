-- `judge::decide` meets its contract: cleared marks hold nothing yet.
use Rattle.judge.proofs.Found.{cleared_unmarked}
use Rattle.judge.proofs.decide.Goals as goal

pub run-over-requires : goal.run-over-requires
run-over-requires c = cleared_unmarked _ c.requires c.clear.ensures
