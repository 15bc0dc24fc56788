-- `judge::search::Search::expand` meets its contract. The loop's invariant: the rows before row `j` of those that are shown are followed, and row `j`
-- stands at `at`.
use mathlib.Core.Path.{refl, sym}
use Rattle.table.proofs.Showing.{range_first}
use Rattle.judge.proofs.Following.{same_keeps, place_again, expand_begins, expand_followed, expand_ends}
use Rattle.judge.proofs.search.Search.expand.Goals as goal

pub loop-j-init : goal.loop-j-init
loop-j-init c =
    let w = c.requires in
    let e = c.clear_bit.ensures in
    let a = c.rows_of-range.ensures in
    record { search = expand_begins w e a; followed = expand_followed w e a; keeps = same_keeps; place = sym (range_first _) }

pub loop-j-preserved : goal.loop-j-preserved
loop-j-preserved c =
    let f = c.visit-past.ensures in
    let l = c.loop-j.invariant in
    let low = c.requires.low in
    record {
      search = f.search;
      followed = f.keeps _ low l.followed;
      keeps = λ k lowk was. f.keeps k lowk (l.keeps k lowk was);
      place = place_again _ _ l.place refl;
    }

pub returns : goal.returns
returns c =
    let l = c.loop-j.invariant in
    expand_ends c.requires c.clear_bit.ensures c.rows_of-range.ensures _ c.loop-j-test.false l.search l.followed l.keeps
