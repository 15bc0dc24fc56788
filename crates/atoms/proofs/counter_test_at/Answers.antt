-- `atoms::counter_test_at` meets its contract.
use Rattle.atoms.specs.Atom.{NumeralSays}
use Rattle.atoms.proofs.Exits.{exit}
use Rattle.atoms.proofs.Said.{compared, not_compared, zero_read_lem, number_refused}
use Rattle.atoms.proofs.counter_test_at.Goals as goal

pub returns-in_err-zero : goal.returns-in_err-zero
returns-in_err-zero c =
    rw (exit _ c.from_residual.ensures.1) (not_compared (NumeralSays c.args.text.now) c.token_at.ensures c.comparison_of.ensures c.in_err-zero.was)

pub returns-in_err-at : goal.returns-in_err-at
returns-in_err-at c =
    rw
    (exit _ c.from_residual-in_err-at.ensures.1)
    (compared
    (NumeralSays c.args.text.now)
    c.token_at.ensures
    c.comparison_of.ensures
    c.in_ok-zero.was
    (number_refused _ c.zero_at.ensures c.in_err-at.was))

pub returns : goal.returns
returns c =
    compared
    (NumeralSays c.args.text.now)
    c.token_at.ensures
    c.comparison_of.ensures
    c.in_ok-zero.was
    (zero_read_lem _ c.zero_at.ensures c.in_ok-at.was)
