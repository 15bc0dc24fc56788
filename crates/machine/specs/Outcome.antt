-- What a row's step comes to, from the row's own state and within a limit.
use Rattle.std.specs.Prelude.{ℕ, ◌≤◌, ◌<◌, List}
use Rattle.table.specs.Table.{Row, Table}
use Rattle.machine.specs.Step.{Situation, Takes}
use Rattle.machine.specs.declared.Outcome.{Outcome}
use Rattle.machine.specs.declared.Outcome.TheVariants.{Goes, Blocked, OverLimit}

abbrev pub step_from : Row → ℕ → ℕ → Situation
step_from r cell counter = record { state = r.from; cell = cell; counter = counter }

abbrev pub step_to : Row → ℕ → ℕ → Situation
step_to r cell counter = record { state = r.to; cell = cell; counter = counter }

-- it goes to a cell and a counter within the limit; it can't be taken; or it could, but for passing the limit
abbrev pub OutcomeRight : Table → List ℕ → Row → ℕ → Situation → Outcome → Type 0
OutcomeRight t word r limit s (Goes cell counter) = Takes t word r s (step_to r cell counter) × (counter ≤ limit)
OutcomeRight t word r limit s Blocked = (u : Situation) → ¬ Takes t word r s u
OutcomeRight t word r limit s OverLimit = (u : Situation) × Takes t word r s u × (limit < u.counter)

pub record Steps (t : Table) (word : List ℕ) (r : Row) (limit : ℕ) (s : Situation) (outcome : Outcome) : Type 0 where
  pub right : OutcomeRight t word r limit s outcome
