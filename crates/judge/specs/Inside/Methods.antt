-- What the methods of a search promise one another, of the search, the marks and the row that is shown.
use Rattle.std.specs.Prelude.{ℕ, Bool, List}
use Rattle.table.specs.Fields.{table_of}
use Rattle.cells.specs.Code.{symbol_is}
use Rattle.judgement.specs.declared.answer.Judged.{Judged}
use Rattle.judge.specs.Inside.Search as Inside
use Rattle.judge.specs.Inside.Inner as Inner
use Rattle.judge.specs.declared.search.Search.{Search}
use Rattle.judge.specs.declared.search.Shown.{Shown}

-- a row that is shown is to be visited, and to be followed, since it leaves its situation's state
abbrev pub ToVisit : Search → List ℕ → Bool → Shown → Type 0
ToVisit s m over r = Inner.RowHere (table_of s.image.now) s.rows.now s.word.now s.limit m over r.i r.range r.j r.at (symbol_is r.seen)

abbrev pub ToFollow : Search → List ℕ → Bool → Shown → Type 0
ToFollow s m over r = Inner.RowLeaves (table_of s.image.now) s.rows.now s.word.now s.limit m over r.i r.range r.j r.at (symbol_is r.seen)

-- and was
abbrev pub Visited : Search → List ℕ → List ℕ → Bool → Shown → Type 0
Visited s m m' over r = Inner.RowFollowed (table_of s.image.now) s.rows.now s.word.now s.limit m m' over r.i r.range r.j

-- every row of situation i is to be visited, and was
abbrev pub ToExpand : Search → List ℕ → Bool → ℕ → Type 0
ToExpand s m over i = Inner.Waiting (table_of s.image.now) s.rows.now s.source s.word.now s.limit m over i

abbrev pub HasExpanded : Search → List ℕ → List ℕ → Bool → ℕ → Type 0
HasExpanded s m m' over i = Inner.Expanded (table_of s.image.now) s.word.now s.limit m m' over i

-- the search is to be run, and was
abbrev pub ToRun : Search → List ℕ → Type 0
ToRun s m = Inner.Unmarked (table_of s.image.now) s.rows.now s.source s.word.now s.limit m

abbrev pub HasRun : Search → List ℕ → Bool → Type 0
HasRun s m over = Inside.Searched (table_of s.image.now) s.word.now s.limit m over

-- its answer is to be given, and was
abbrev pub ToDecide : Search → Type 0
ToDecide s = Inner.Undecided (table_of s.image.now) s.rows.now s.source s.word.now s.limit

abbrev pub HasDecided : Search → List ℕ → Judged → Type 0
HasDecided s m answer = Inner.Decided (table_of s.image.now) s.word.now s.limit m answer
