-- Its states and its codes. Assumes nothing.
use Rattle.checker.proofs.Decided.{codes_tell}
use Rattle.checker.proofs.form.row_right.Goals as goal

pub returns-then-states_right : goal.returns-then-states_right
returns-then-states_right c =
    codes_tell
    _
    c.requires
    c.row_at-row.ensures
    c.letter_count.ensures
    (c.states_right.ensures.holds c.if-states_right.true)
    c.codes_right.ensures
