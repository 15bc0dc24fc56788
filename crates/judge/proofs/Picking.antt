-- One turn of the search: what is picked is followed, and fewer are left; where nothing is picked the search is over.
use Prim.Native.Nat.{ℕ, ◌<◌}
use native.Mathlib.Omega.{arith}
use mathlib.Core.Path.{◌≡◌}
use mathlib.Core.Bool.{Bool, false}
use mathlib.Core.List.{List}
use lib.ListN.{length}
use Rattle.judgement.specs.Marks.{mark_bytes}
use Rattle.table.specs.Table.{Table}
use Rattle.table.specs.Inside.Showing.{Sources}
use Rattle.table.specs.declared.source.Source.{Source}
use Rattle.judge.specs.Inside.Search.{marked, Between}
use Rattle.judge.specs.Inside.Inner.{Pending, Waiting, Expanded, Unmarked}
use Rattle.judge.proofs.Searching.{search_begins}
use Rattle.judge.proofs.Left.{left, left_falls}

module _ {t : Table} {rows : List ℕ} {source : Source} {w : List ℕ} {L : ℕ} {m : List ℕ} where
  -- the start is marked
  pub begins-between : {m' : List ℕ} → Unmarked t rows source w L m → length m ≡ mark_bytes → m' ≡ marked m 0 → Between t w L m' false
  begins-between unmarked room is = rw is (search_begins m unmarked.ready room unmarked.empty)

  -- a situation that is picked waits
  pub picked_waiting : {over : Bool} {i : ℕ} → Sources t source rows → Between t w L m over → Pending m i → Waiting t rows source w L m over i
  picked_waiting sources between picked = record { sources = sources; between = between; low = picked.low; waits = picked.waits }

  -- fewer are left
  pub expand_falls : {m' : List ℕ} {over past : Bool} {i : ℕ} → Waiting t rows source w L m over i → Expanded t w L m m' past i → left m' < left m
  expand_falls {m'} {i = i} waiting done =
      left_falls m m' done.keeps i waiting.low (λ f. omega (arith, f.not_pending, waiting.waits)) done.done
