-- `judge::accepts_in` meets its contract.
use Rattle.judge.proofs.Answers.{accepts_told}
use Rattle.judge.proofs.accepts_in.Goals as goal

pub returns-then-accepts : goal.returns-then-accepts
returns-then-accepts c =
    rw c.is_some.ensures (accepts_told c.first_set.result c.requires (c.accepts.ensures.holds c.if-accepts.true) c.first_set.ensures)
