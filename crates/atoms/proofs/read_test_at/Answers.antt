-- `atoms::read_test_at` meets its contract.
use Rattle.atoms.specs.Atom.{ObjectSays}
use Rattle.atoms.proofs.Exits.{exit}
use Rattle.atoms.proofs.Said.{compared, not_compared, symbol_found, symbol_refused}
use Rattle.atoms.proofs.read_test_at.Goals as goal

pub returns-in_err-equal : goal.returns-in_err-equal
returns-in_err-equal c =
    rw (exit _ c.from_residual.ensures.1) (not_compared ObjectSays c.token_at.ensures c.comparison_of.ensures c.in_err-equal.was)

pub returns-in_err-symbol : goal.returns-in_err-symbol
returns-in_err-symbol c =
    rw
    (exit _ c.from_residual-in_err-symbol.ensures.1)
    (compared
    ObjectSays
    c.token_at.ensures
    c.comparison_of.ensures
    c.in_ok-equal.was
    (symbol_refused _ c.token_at-2.ensures c.symbol_of.ensures c.in_err-symbol.was))

pub returns : goal.returns
returns c =
    compared
    ObjectSays
    c.token_at.ensures
    c.comparison_of.ensures
    c.in_ok-equal.was
    (symbol_found _ c.token_at-2.ensures c.symbol_of.ensures c.in_ok-symbol.was)
