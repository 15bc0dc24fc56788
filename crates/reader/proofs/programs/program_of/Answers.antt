-- `reader::programs::program_of` meets its contract.
use mathlib.Core.List.{[]}
use Rattle.reader.specs.Inside.Answers.{alphabet_of}
use Rattle.atoms.proofs.Exits.{exit}
use Rattle.reader.proofs.Moves.{went, arrives_on, stops_on, then, stop}
use Rattle.reader.proofs.Listed.{with_went, with_stop}
use Rattle.reader.proofs.Whole.{stopped, whole, more}
use Rattle.reader.proofs.programs.program_of.Goals as goal

pub returns-in_err-settled : goal.returns-in_err-settled
returns-in_err-settled c = rw (exit _ c.from_residual.ensures.1) (stopped (with_stop c.settings_of.ensures c.in_err-settled.was))

pub returns-in_err-head : goal.returns-in_err-head
returns-in_err-head c =
    rw
    (exit _ c.from_residual-in_err-head.ensures.1)
    (stopped
    (stops_on
    (with_went c.settings_of.ensures c.in_ok-settled.was)
    (stop {y = []} {b = []} [] (c.head.ensures (alphabet_of c.in_ok-settled.letters)) c.in_err-head.was).right))

pub returns-in_err-reader : goal.returns-in_err-reader
returns-in_err-reader c =
    rw
    (exit _ c.from_residual-in_err-reader.ensures.1)
    (stopped
    (stops_on
    (with_went c.settings_of.ensures c.in_ok-settled.was)
    (then
    {y = []}
    {b = []}
    []
    (c.head.ensures (alphabet_of c.in_ok-settled.letters))
    c.in_ok-head.was
    (stop [] (rw (c.new.ensures.1, c.new.ensures.0) at c.block.ensures) c.in_err-reader.was)).right))

pub returns-in_default : goal.returns-in_default
returns-in_default c =
    let all =
    (arrives_on
    (with_went c.settings_of.ensures c.in_ok-settled.was)
    (arrives_on (went [] (c.head.ensures (alphabet_of c.in_ok-settled.letters)) c.in_ok-head.was) (went [] (rw (c.new.ensures.1, c.new.ensures.0) at c.block.ensures) c.in_ok-reader.was)))
    in
    more all.comes c.token_at-token.ensures c.in_default.not-End c.refuse.ensures

pub returns : goal.returns
returns c =
    let all =
    (arrives_on
    (with_went c.settings_of.ensures c.in_ok-settled.was)
    (arrives_on (went [] (c.head.ensures (alphabet_of c.in_ok-settled.letters)) c.in_ok-head.was) (went [] (rw (c.new.ensures.1, c.new.ensures.0) at c.block.ensures) c.in_ok-reader.was)))
    in
    whole all.comes c.token_at-token.ensures c.in-End.is
