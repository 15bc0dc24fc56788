-- `reader::answers::Reader::alphabet` meets its contract.
use mathlib.Core.Path.{refl}
use mathlib.Core.List.{[]}
use Rattle.rule.specs.Inside.Class.{Fixed}
use Rattle.atoms.proofs.Exits.{exit}
use Rattle.reader.proofs.Moves.{went, arrives_on, stop}
use Rattle.reader.proofs.Taken.{exactly}
use Rattle.reader.proofs.Listed.{with_gone, with_stopped, with_refused, with_refused_on, with_onward}
use Rattle.reader.proofs.answers.Reader.alphabet.Goals as goal

pub returns-in_err-sign : goal.returns-in_err-sign
returns-in_err-sign c =
    rw (exit _ c.from_residual.ensures.1) (with_refused (stop _ (exactly (c.sign.ensures Fixed.equals refl)) c.in_err-sign.was))

pub returns-in_err-inside : goal.returns-in_err-inside
returns-in_err-inside c =
    rw
    (exit _ c.from_residual-in_err-inside.ensures.1)
    (with_refused_on
    (went _ (exactly (c.sign.ensures Fixed.equals refl)) c.in_ok-sign.was)
    (stop _ (exactly (c.sign-2.ensures Fixed.open_list refl)) c.in_err-inside.was))

pub returns-in_err-closed : goal.returns-in_err-closed
returns-in_err-closed c =
    rw
    (exit _ c.from_residual-in_err-closed.ensures.1)
    (with_onward
    (went _ (exactly (c.sign.ensures Fixed.equals refl)) c.in_ok-sign.was)
    (with_onward
    (went _ (exactly (c.sign-2.ensures Fixed.open_list refl)) c.in_ok-inside.was)
    (with_stopped _ c.letters.ensures c.in_err-closed.was)))

pub returns-in_err-sign-2 : goal.returns-in_err-sign-2
returns-in_err-sign-2 c =
    rw
    (exit _ c.from_residual-in_err-sign-2.ensures.1)
    (with_onward
    (went _ (exactly (c.sign.ensures Fixed.equals refl)) c.in_ok-sign.was)
    (with_refused_on
    (arrives_on
    (went _ (exactly (c.sign-2.ensures Fixed.open_list refl)) c.in_ok-inside.was)
    (with_gone _ c.letters.ensures c.in_ok-closed.was))
    (stop _ (exactly (c.sign-3.ensures Fixed.semicolon refl)) c.in_err-sign-2.was)))

pub returns : goal.returns
returns c =
    record {
      right =
          arrives_on
          (arrives_on
          (went _ (exactly (c.sign.ensures Fixed.equals refl)) c.in_ok-sign.was)
          (arrives_on
          (went _ (exactly (c.sign-2.ensures Fixed.open_list refl)) c.in_ok-inside.was)
          (with_gone _ c.letters.ensures c.in_ok-closed.was)))
          (went [] (exactly (c.sign-3.ensures Fixed.semicolon refl)) c.in_ok-sign-2.was);
    }
