-- `reader::answers::Reader::behind_goto` meets its contract.
use mathlib.Core.Path.{refl}
use mathlib.Core.Logic.{⊎_elim}
use Rattle.rule.specs.Inside.Class.{Fixed}
use Rattle.atoms.proofs.Exits.{exit}
use Rattle.reader.proofs.Moves.{onward, then, stop, took_with}
use Rattle.reader.proofs.Taken.{exactly, either_taken, neither_taken, refuses_both}
use Rattle.reader.proofs.answers.Reader.behind_goto.Goals as goal

pub returns-in_err-inside : goal.returns-in_err-inside
returns-in_err-inside c a = rw (exit _ c.from_residual.ensures.1) (stop _ (exactly (c.sign.ensures Fixed.opens refl)) c.in_err-inside.was)

pub returns-in_err-mark : goal.returns-in_err-mark
returns-in_err-mark c a =
    let none = neither_taken (c.after_word-lend.ensures _ c.next-token.ensures _ Fixed.lend refl refl) (c.after_word.ensures _ c.next-token.ensures _ Fixed.rend refl refl) c.or.ensures c.in_err-mark.was in
    rw
    (exit _ c.from_residual-in_err-mark.ensures.1)
    (then _ (exactly (c.sign.ensures Fixed.opens refl)) c.in_ok-inside.was (refuses_both none.1 none.0 (λ p k l r. (l, (r, tt)))))

pub returns : goal.returns
returns c a =
    let one = either_taken (c.after_word-lend.ensures _ c.next-token.ensures _ Fixed.lend refl refl) (c.after_word.ensures _ c.next-token.ensures _ Fixed.rend refl refl) c.or.ensures c.in_ok-mark.was in
    then
    _
    (exactly (c.sign.ensures Fixed.opens refl))
    c.in_ok-inside.was
    (onward (⊎_elim (λ h. took_with h _ refl refl refl) (λ h. took_with h _ refl refl refl) one) (c.close.ensures a))
