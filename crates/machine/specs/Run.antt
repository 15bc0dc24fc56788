-- The runs of a table on a word, from the left end in state 0 with the counter at zero, and what those within a limit reach.
use Rattle.std.specs.Prelude.{ℕ, ◌≤◌, ◌<◌, List}
use Rattle.table.specs.Table.{Table, Accepting}
use Rattle.machine.specs.Step.{Situation, Step}

abbrev pub start : Situation
start = record { state = 0; cell = 0; counter = 0 }

-- the situation is reached by a run whose counter is never above the limit
pub data Reach (t : Table) (word : List ℕ) (limit : ℕ) : Situation → Type 0 where
  begins : Reach t word limit start
  goes : {s u : Situation} → Reach t word limit s → Step t word s u → u.counter ≤ limit → Reach t word limit u

-- some run within the limit accepts
pub record Accepts (t : Table) (word : List ℕ) (limit : ℕ) : Type 0 where
  pub situation : Situation
  pub reached : Reach t word limit situation
  pub accepting : Accepting t situation.state

-- some run within the limit comes to a step that would pass it
pub record Passes (t : Table) (word : List ℕ) (limit : ℕ) : Type 0 where
  pub before : Situation
  pub after : Situation
  pub reached : Reach t word limit before
  pub step : Step t word before after
  pub above : limit < after.counter
