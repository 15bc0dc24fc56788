-- What a change of the counter comes to on the way to a cell. No public promise reaches it.
use Rattle.std.specs.Prelude.{ℕ, cond, leb}
use Rattle.std.proofs.Math.Option.{Option, none, some}
use Rattle.machine.specs.declared.Outcome.{Outcome}
use Rattle.machine.specs.declared.Outcome.TheVariants.{Goes, Blocked, OverLimit}

-- what a change of the counter to this, or none, comes to on the way to a cell
unfoldable pub outcome_of : ℕ → ℕ → Option ℕ → Outcome
outcome_of limit cell none = Blocked
outcome_of limit cell (some counter) = cond (leb counter limit) (Goes cell counter) OverLimit
