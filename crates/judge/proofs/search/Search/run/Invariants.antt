-- `judge::search::Search::run` meets its contract. The loop's invariant: the search is between two situations; the measure: how many are left.
use Rattle.table.specs.Fields.{table_of}
use Rattle.judge.specs.Inside.Search.{Between}
use Rattle.judge.proofs.Left.{left}
use Rattle.judge.proofs.search.Search.run.Given as goal

abbrev pub invariant-loop-i : goal.invariant-loop-i
invariant-loop-i l =
    Between (table_of l.self.image.now) l.self.word.now l.self.limit l.marks l.over

abbrev pub decreases-loop-i : goal.decreases-loop-i
decreases-loop-i l =
    left l.marks
