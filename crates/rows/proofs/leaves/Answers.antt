-- The state that a row leaves, compared. Assumes nothing.
use Prim.Native.Nat.{ℕ}
use mathlib.Core.Path.{ap, ◌∙◌}
use lib.Dec.{eqb}
use Rattle.table.proofs.Reading.{from_here}
use Rattle.rows.proofs.leaves.Goals as goal

pub returns-then-at-saturating_sub : goal.returns-then-at-saturating_sub
returns-then-at-saturating_sub c =
    let start = c.args in
    ap (λ (n : ℕ). eqb n start.state) (c.two.ensures ∙ from_here start.rows.now start.at)

pub returns-else-at-saturating_sub : goal.returns-else-at-saturating_sub
returns-else-at-saturating_sub c =
    let start = c.args in
    ap (λ (n : ℕ). eqb n start.state) (c.two_at.ensures ∙ from_here start.rows.now start.at)
