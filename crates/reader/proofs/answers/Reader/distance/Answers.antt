-- `reader::answers::Reader::distance` meets its contract.
use mathlib.Core.Path.{refl}
use Rattle.rule.specs.Inside.Class.{Fixed}
use Rattle.atoms.proofs.Exits.{exit}
use Rattle.reader.proofs.Moves.{onward, then, stop}
use Rattle.reader.proofs.Peek.{minus_or}
use Rattle.reader.proofs.answers.Reader.distance.Goals as goal

pub returns-in_err-number : goal.returns-in_err-number
returns-in_err-number c a =
    rw
    (exit _ c.from_residual.ensures.1)
    (onward (minus_or (c.sign.ensures Fixed.minus refl) c.unwrap_or-number.ensures) (stop _ (c.number.ensures a) c.in_err-number.was))

pub returns : goal.returns
returns c a =
    onward (minus_or (c.sign.ensures Fixed.minus refl) c.unwrap_or-number.ensures) (then _ (c.number.ensures a) c.in_ok-number.was (c.close.ensures a))
