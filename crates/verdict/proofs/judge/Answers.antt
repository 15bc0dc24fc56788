-- The line is within its buffer.
use Rattle.programs.proofs.Answering.{word_counts}
use Rattle.verdict.proofs.judge.Goals as goal

pub slice_bounds-line-end : goal.slice_bounds-line-end
slice_bounds-line-end c = (word_counts c.in_ok-n.ensures).0

pub slice_bounds-show-end-2 : goal.slice_bounds-show-end-2
slice_bounds-show-end-2 c = (word_counts c.in_ok-n.ensures).1
