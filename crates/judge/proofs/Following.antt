-- What a row's step does to the search, whichever source shows the row.
use Prim.Native.Nat.{ℕ, ◌+◌, ◌*◌, ◌/◌, ◌%◌, ◌≤◌, ◌<◌}
use native.Mathlib.Decide.{ℕ_discrete}
use native.Mathlib.Numerals.{add-one}
use native.Mathlib.Omega.{arith}
use mathlib.Core.Path.{◌≡◌, sym, ap, ◌∙◌, subst}
use mathlib.Core.Bool.{Bool, true, false, true≢false, ◌&&◌}
use mathlib.Core.Logic.{◌⊎◌, inl, inr}
use lib.Dec.{eqb}
use borrow.Author.Tests.{eq-eqb, eqb-false}
use mathlib.Core.List.{List, Memᴰ}
use Rattle.bits.specs.Bit.{bit, without_bit}
use Rattle.table.specs.Table.{Row, Table}
use Rattle.table.specs.Fields.{row_from}
use Rattle.table.specs.Source.{range_of}
use Rattle.table.specs.Inside.Showing.{place_in, row_in, Shows}
use Rattle.table.specs.declared.source.Range.{Range}
use Rattle.table.specs.declared.source.Source.{Source}
use Rattle.table.proofs.Showing.{range_next}
use Rattle.machine.specs.Step.{Situation, symbol_fits, counter_fits, row_fits, Takes}
use Rattle.cells.specs.Cell.{Symbol}
use Rattle.machine.specs.Outcome.{step_from, step_to, OutcomeRight, Steps}
use Rattle.machine.specs.declared.Outcome.{Outcome}
use Rattle.machine.specs.declared.Outcome.TheVariants.{Goes, Blocked, OverLimit}
use Rattle.judgement.specs.Marks.{HasMark, mark_of}
use Rattle.judge.specs.Inside.Search.{situations, situation_of, marked, Followed, Searching, Keeps}
use Rattle.judge.specs.Inside.Inner.{Shown, RowOpen, RowLeaves, RowFollowed, Waiting, Expanded}
use Rattle.judgement.proofs.Marks.{mark_below}
use Rattle.judge.proofs.Marking.{marked_followed}
use Rattle.judge.proofs.Searching.{other_state, mark_for, row_blocked, row_above, row_within, rows_done, rows_begin, begun_followed, begun_keeps}

-- nothing has changed
pub same_keeps : {m : List ℕ} → Keeps m m
same_keeps i low f = f

-- what a range shows: no row before the first, and one more before the next
shown_none : {rows : List ℕ} {range : Range} (r : Row) → ¬ Shown rows range 0 r
shown_none r shown = omega (arith, shown.low)

shown_more : {rows : List ℕ} {range : Range} (j : ℕ) (q : Row) → Shown rows range (j + 1) q → Shown rows range j q ⊎ (q ≡ row_in rows range j)
shown_more {rows} {range} j q shown = by_cases (ℕ_discrete shown.number j)
  where
    by_cases : Dec (shown.number ≡ j) → Shown rows range j q ⊎ (q ≡ row_in rows range j)
    by_cases (yes e) = inr (shown.is ∙ ap (row_in rows range) e)
    by_cases (no other) = inl (record { number = shown.number; low = omega (arith, shown.low); is = shown.is })

-- where the row after the next one stands
pub place_again : (range : Range) (j : ℕ) {at apart : ℕ} → at ≡ place_in range j → apart ≡ range.apart → at + apart ≡ place_in range (j + 1)
place_again range j place is = rw (add-one j) (omega (arith, place, is, range_next range j))

module _ {t : Table} {rows w : List ℕ} {L : ℕ} {m : List ℕ} {over : Bool} {i : ℕ} {range : Range} {j at : ℕ} (row : RowOpen t rows w L m over i range j at) where
  -- what stands here is the row that is shown
  here_is : row_from rows at ≡ row_in rows range j
  here_is = ap (row_from rows) row.place

  -- a row that can't be taken does nothing
  never_followed : ((u : Situation) → ¬ Takes t w (row_in rows range j) (situation_of i) u) → RowFollowed t rows w L m m over i range j
  never_followed never = record { search = row_blocked row.search (row_in rows range j) (shown_more j) never; keeps = same_keeps }

  -- nor can one out of another state
  pub followed_other : eqb (row_from rows at).from (i / 32 / 64) ≡ false → RowFollowed t rows w L m m over i range j
  followed_other other =
      never_followed (other_state (λ e. eqb-false _ _ other (ap (λ (r : Row). r.from) here_is ∙ e)))

module _ {t : Table} {rows w : List ℕ} {L : ℕ} {m : List ℕ} {over : Bool} {i : ℕ} {range : Range} {j at : ℕ} {seen : Symbol}
    (there : RowLeaves t rows w L m over i range j at seen) where
  row : RowOpen t rows w L m over i range j at
  row = there.here.row

  reached : bit m i ≡ 1
  reached = row.followed.reached

  -- what stands here is a row of the table that leaves the situation's state
  leaves : (row_in rows range j).from ≡ i / 32 / 64
  leaves = sym (ap (λ (r : Row). r.from) (here_is row)) ∙ there.leaves

  listed : Memᴰ (row_in rows range j) t.rows
  listed = row.shows.only j row.few leaves

  module _ (code : Row) (is : code ≡ row_from rows at) where
    shown : code ≡ row_in rows range j
    shown = is ∙ here_is row

    -- one that does not fit what is seen can't be taken
    pub followed_unfit
        : (symbol_fits t.alphabet code.symbol seen && counter_fits code.test (i % 32)) ≡ false → RowFollowed t rows w L m m over i range j
    unfolding row_fits
    followed_unfit other = never_followed row (λ u takes. unfit u (subst (λ (r : Row). Takes t w r (situation_of i) u) (sym shown) takes))
      where
        unfit : (u : Situation) → ¬ Takes t w code (situation_of i) u
        unfit u takes = true≢false (sym takes.fits ∙ rw (eq-eqb code.from (i / 32 / 64) (ap (λ (r : Row). r.from) shown ∙ leaves), ← there.here.sees) other)

    module _ (o : Outcome) (steps : Steps t w code L (step_from code (i / 32 % 64) (i % 32)) o) where
      -- the step is the row's, from the situation
      step_here : OutcomeRight t w (row_in rows range j) L (situation_of i) o
      step_here =
          let same : step_from (row_in rows range j) (i / 32 % 64) (i % 32) ≡ situation_of i = λ k. record {
            state = leaves k;
            cell = i / 32 % 64;
            counter = i % 32;
          } in
          (subst (λ (s : Situation). Steps t w (row_in rows range j) L s o) same
          (subst (λ (r : Row). Steps t w r L (step_from r (i / 32 % 64) (i % 32)) o) shown steps)).right

      -- it can't be taken
      pub followed_blocked : o ≡ Blocked → RowFollowed t rows w L m m over i range j
      followed_blocked e = never_followed row (subst (OutcomeRight t w (row_in rows range j) L (situation_of i)) e step_here)

      -- it would pass the limit
      pub followed_above : o ≡ OverLimit → RowFollowed t rows w L m m true i range j
      followed_above e =
          let above = subst (OutcomeRight t w (row_in rows range j) L (situation_of i)) e step_here in
          record { search = row_above row.search row.low reached listed (shown_more j) above.1 above.2; keeps = same_keeps }

      module _ (cell counter : ℕ) (e : o ≡ Goes cell counter) where
        goes_right : OutcomeRight t w (row_in rows range j) L (situation_of i) (Goes cell counter)
        goes_right = subst (OutcomeRight t w (row_in rows range j) L (situation_of i)) e step_here

        -- it leads to a situation that has a mark
        goes_mark : HasMark (step_to code cell counter)
        goes_mark =
            subst (λ (r : Row). HasMark (step_to r cell counter)) (sym shown)
            (mark_for row.search row.low reached listed goes_right.0 goes_right.1)

        pub goes_below : (code.to * 64 + cell) * 32 + counter < situations
        unfolding mark_of
        goes_below = mark_below goes_mark

        -- which is marked
        pub followed_goes : (m' : List ℕ) → m' ≡ marked m ((code.to * 64 + cell) * 32 + counter) → RowFollowed t rows w L m m' over i range j
        unfolding mark_of
        followed_goes m' marks =
            let to = subst (λ (r : Row). m' ≡ marked m (mark_of (step_to r cell counter))) shown marks in
            rw to (record {
              search = row_within row.search row.low reached listed (shown_more j) goes_right.0 goes_right.1;
              keeps =
                  marked_followed m (mark_of (step_to (row_in rows range j) cell counter))
                  (mark_below (subst (λ (r : Row). HasMark (step_to r cell counter)) shown goes_mark)) row.search.room;
            })

module _ {t : Table} {rows : List ℕ} {source : Source} {w : List ℕ} {L : ℕ} {m m' : List ℕ} {over : Bool} {i : ℕ}
    (waiting : Waiting t rows source w L m over i) (cleared : m' ≡ without_bit m (i + situations))
    {range : Range} (asked : range ≡ range_of source rows (i / 32 / 64)) where
  -- the source shows the rows out of the situation's state
  pub expand_shows : Shows t rows (i / 32 / 64) range
  expand_shows =
      subst (Shows t rows (i / 32 / 64)) (sym asked) (waiting.sources.shows (i / 32 / 64) (omega (arith, waiting.low)))

  -- a situation that is no longer pending is followed, row by row
  pub expand_begins : Searching t w L m' over i (Shown rows range 0)
  expand_begins = rw cleared (rows_begin waiting.between i waiting.low waiting.waits shown_none)

  pub expand_followed : Followed m' i
  expand_followed = rw cleared (begun_followed waiting.between i waiting.low waiting.waits)

  -- until the last one
  pub expand_ends
      : {n : List ℕ} {past : Bool} (j : ℕ) → range.many ≤ j → Searching t w L n past i (Shown rows range j) → Followed n i → Keeps m' n
      → Expanded t w L m n past i
  expand_ends {n} j many at followed keeps = record {
    between = rows_done at (λ r listed here. let found = expand_shows.every r listed here in record {
      number = found.0;
      low = omega (arith, found.1);
      is = found.2;
    });
    keeps = λ k low f. keeps k low (subst (λ (l : List ℕ). Followed l k) (sym cleared) (begun_keeps waiting.between i waiting.low waiting.waits k low f));
    done = followed;
  }
