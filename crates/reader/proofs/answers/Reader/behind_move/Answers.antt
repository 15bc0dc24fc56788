-- `reader::answers::Reader::behind_move` meets its contract.
use mathlib.Core.Path.{refl}
use Rattle.rule.specs.Inside.Class.{Fixed}
use Rattle.atoms.proofs.Exits.{exit}
use Rattle.reader.proofs.Moves.{then, stop}
use Rattle.reader.proofs.Taken.{exactly}
use Rattle.reader.proofs.answers.Reader.behind_move.Goals as goal

pub returns-in_err-sign : goal.returns-in_err-sign
returns-in_err-sign c a = rw (exit _ c.from_residual.ensures.1) (stop _ (exactly (c.sign.ensures Fixed.opens refl)) c.in_err-sign.was)

pub returns : goal.returns
returns c a = then _ (exactly (c.sign.ensures Fixed.opens refl)) c.in_ok-sign.was (c.distance.ensures a)
