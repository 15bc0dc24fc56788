-- What a limit does to what runs reach: a higher one keeps it all, and a no holds however high the counter may go.
use Prim.Native.Nat.{ℕ, ◌≤◌, ◌<◌, zero-le}
use native.Mathlib.Nat.{le_refl, le_trans}
use native.Mathlib.Decide.{dec_le}
use native.Mathlib.Omega.{arith}
use mathlib.Core.Bool.{Bool, true, false, cond}
use mathlib.Core.List.{List}
use lib.Dec.{eqb}
use Rattle.table.specs.Form.{to_left, to_right}
use Rattle.table.specs.Table.{Table}
use Rattle.table.specs.WellFormed.{InRange}
use Rattle.cells.specs.Cell.{last, moved}
use Rattle.machine.specs.Step.{Situation, Step}
use Rattle.machine.specs.Run.{Reach, begins, goes, Accepts, Passes}

module _ {t : Table} {w : List ℕ} where
  -- where whatever the one limit reaches the other does, what the one accepts the other does
  accepts_as : {L M : ℕ} → ((s : Situation) → Reach t w L s → Reach t w M s) → Accepts t w L → Accepts t w M
  accepts_as also a = record {
    situation = a.situation;
    reached = also a.situation a.reached;
    accepting = a.accepting;
  }

  -- what is reached is reached at a higher limit
  pub reach_higher : {L M : ℕ} {s : Situation} → L ≤ M → Reach t w L s → Reach t w M s
  reach_higher more begins = begins
  reach_higher more (goes before step low) = goes (reach_higher more before) step (le_trans low more)

  -- a yes stays a yes at a higher limit
  pub accepts_higher : {L M : ℕ} → L ≤ M → Accepts t w L → Accepts t w M
  accepts_higher more = accepts_as (λ s. reach_higher more)

  -- where no step would pass the limit, a step goes on within it
  goes_within : {L : ℕ} {s u : Situation} → ¬ Passes t w L → Reach t w L s → Step t w s u → Dec (u.counter ≤ L) → Reach t w L u
  goes_within calm before step (yes low) = goes before step low
  goes_within {L} {s} {u} calm before step (no high) =
      absurd (calm (record { before = s; after = u; reached = before; step = step; above = omega arith }))

  -- and what any limit reaches is reached within it
  pub reach_anyway : {L M : ℕ} {s : Situation} → ¬ Passes t w L → Reach t w M s → Reach t w L s
  reach_anyway calm begins = begins
  reach_anyway calm (goes before step low) = goes_within calm (reach_anyway calm before) step (dec_le _ _)

  -- a no holds however high the counter may go
  pub no_everywhere : {L : ℕ} → ¬ Accepts t w L → ¬ Passes t w L → (M : ℕ) → ¬ Accepts t w M
  no_everywhere never calm M a = never (accepts_as (λ s. reach_anyway calm) a)

-- whichever of two numbers at most n a test picks is at most n
either_at_most : (b : Bool) {x y n : ℕ} → x ≤ n → y ≤ n → cond b x y ≤ n
either_at_most true low low' = low
either_at_most false low low' = low'

-- a move ends on a cell of the word
pub moved_inside : (w : List ℕ) (code cell : ℕ) → moved w code cell ≤ last w
unfolding moved
moved_inside w code cell =
    either_at_most (eqb code to_left) zero-le (either_at_most (eqb code to_right) (le_refl _) (omega arith))

-- what is reached is a state of the table, a cell of the word and a counter within the limit
pub reach_within
    : {t : Table} {w : List ℕ} {L : ℕ} {s : Situation} → InRange t → Reach t w L s
    → (s.state < t.states) × (s.cell ≤ last w) × (s.counter ≤ L)
reach_within range begins = (range.some_state, zero-le, zero-le)
reach_within {w = w} range (goes {s = s} before step low) =
    let row = range.rows step.row step.listed in
    let takes = step.takes in
    (rw takes.state row.to, rw takes.cell (moved_inside w step.row.move s.cell), low)
