-- `judge::search::Search::expand` meets its contract. The loop's invariant: the rows before row `j` of those that are shown are followed, and row `j`
-- stands at `at`.
use mathlib.Core.Path.{◌≡◌}
use Rattle.table.specs.Fields.{table_of}
use Rattle.table.specs.Inside.Showing.{place_in}
use Rattle.judge.specs.Inside.Search.{Followed, Searching, Keeps}
use Rattle.judge.specs.Inside.Inner.{Shown}
use Rattle.judge.proofs.search.Search.expand.Given as goal

abbrev pub invariant-loop-j : goal.invariant-loop-j
invariant-loop-j l = record {
  search : Searching (table_of l.self.image.now) l.self.word.now l.self.limit l.marks l.past l.i (Shown l.self.rows.now l.range l.j);
  followed : Followed l.marks l.i;
  keeps : Keeps l.initial.marks l.marks;
  place : l.at ≡ place_in l.range l.j;
}
