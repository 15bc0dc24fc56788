-- `reader::answers::Reader::head` meets its contract.
use mathlib.Core.Path.{refl}
use Rattle.rule.specs.Inside.Class.{Fixed}
use Rattle.atoms.proofs.Exits.{exit}
use Rattle.reader.proofs.Moves.{onward, then, stop, over, took_with}
use Rattle.reader.proofs.Taken.{exactly, taken, missed_one, refuses_unlike}
use Rattle.reader.proofs.answers.Reader.head.Goals as goal

pub returns-in_err-word : goal.returns-in_err-word
returns-in_err-word c a =
    rw
    (exit _ c.from_residual.ensures.1)
    (refuses_unlike (missed_one (c.word.ensures _ Fixed.twoc refl refl) c.in_err-word.was) (λ p k n. (n, tt)))

pub returns-in_err-opened : goal.returns-in_err-opened
returns-in_err-opened c a =
    rw
    (exit _ c.from_residual-in_err-opened.ensures.1)
    (onward
    (took_with (taken (c.word.ensures _ Fixed.twoc refl refl) c.in_ok-word.was) _ refl refl refl)
    (stop _ (exactly (c.sign.ensures Fixed.opens refl)) c.in_err-opened.was))

pub returns-in_err-word-2 : goal.returns-in_err-word-2
returns-in_err-word-2 c a =
    rw
    (exit _ c.from_residual-in_err-word-2.ensures.1)
    (onward
    (took_with (taken (c.word.ensures _ Fixed.twoc refl refl) c.in_ok-word.was) _ refl refl refl)
    (then
    _
    (exactly (c.sign.ensures Fixed.opens refl))
    c.in_ok-opened.was
    (stop _ (exactly (c.word-2.ensures _ Fixed.string refl refl)) c.in_err-word-2.was)))

pub returns : goal.returns
returns c a =
    onward
    (took_with (taken (c.word.ensures _ Fixed.twoc refl refl) c.in_ok-word.was) _ refl refl refl)
    (then
    _
    (exactly (c.sign.ensures Fixed.opens refl))
    c.in_ok-opened.was
    (then
    _
    (exactly (c.word-2.ensures _ Fixed.string refl refl))
    c.in_ok-word-2.was
    (over _ (exactly (c.sign-2.ensures Fixed.closes refl)))))
