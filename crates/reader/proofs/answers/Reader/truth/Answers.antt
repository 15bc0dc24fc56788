-- `reader::answers::Reader::truth` meets its contract.
use mathlib.Core.Path.{refl}
use mathlib.Core.Logic.{⊎_elim}
use Rattle.rule.specs.Inside.Class.{Fixed}
use Rattle.atoms.proofs.Exits.{exit}
use Rattle.reader.proofs.Moves.{onward, then, stop, took_with}
use Rattle.reader.proofs.Taken.{exactly, either_taken, neither_taken, refuses_both}
use Rattle.reader.proofs.answers.Reader.truth.Goals as goal

pub returns-in_err-is : goal.returns-in_err-is
returns-in_err-is c a = rw (exit _ c.from_residual.ensures.1) (stop _ (exactly (c.sign.ensures Fixed.equals refl)) c.in_err-is.was)

pub returns-in_err-said : goal.returns-in_err-said
returns-in_err-said c a =
    let none = neither_taken (c.after_word-yes.ensures _ c.next-token.ensures _ Fixed.is_true refl refl) (c.after_word.ensures _ c.next-token.ensures _ Fixed.is_false refl refl) c.or.ensures c.in_err-said.was in
    rw
    (exit _ c.from_residual-in_err-said.ensures.1)
    (then _ (exactly (c.sign.ensures Fixed.equals refl)) c.in_ok-is.was (refuses_both none.1 none.0 (λ p k l r. (l, (r, tt)))))

pub returns : goal.returns
returns c a =
    let one = either_taken (c.after_word-yes.ensures _ c.next-token.ensures _ Fixed.is_true refl refl) (c.after_word.ensures _ c.next-token.ensures _ Fixed.is_false refl refl) c.or.ensures c.in_ok-said.was in
    then
    _
    (exactly (c.sign.ensures Fixed.equals refl))
    c.in_ok-is.was
    (onward
    (⊎_elim (λ h. took_with h _ refl refl refl) (λ h. took_with h _ refl refl refl) one)
    (exactly (c.sign-2.ensures Fixed.semicolon refl)))
