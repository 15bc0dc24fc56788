-- `reader::answers::Reader::behind_c` meets its contract.
use mathlib.Core.Path.{refl}
use mathlib.Core.Logic.{⊎_elim}
use Rattle.rule.specs.Inside.Class.{Fixed}
use Rattle.atoms.proofs.Exits.{exit}
use Rattle.reader.proofs.Moves.{onward, then, stop, took_with}
use Rattle.reader.proofs.Taken.{exactly, either_taken, neither_taken, refuses_all, unlike_it}
use Rattle.reader.proofs.answers.Reader.behind_c.Goals as goal

pub returns-in-Ok : goal.returns-in-Ok
returns-in-Ok c a =
    let one = either_taken (c.after_sign-up.ensures _ c.next-token.ensures Fixed.plus_plus refl) (c.after_sign.ensures _ c.next-token.ensures Fixed.minus_minus refl) c.or-one.ensures c.in-Ok.is in
    onward
    (⊎_elim (λ h. took_with h _ refl refl refl) (λ h. took_with h _ refl refl refl) one)
    (exactly (c.sign.ensures Fixed.semicolon refl))

pub returns-in_err-many : goal.returns-in_err-many
returns-in_err-many c a =
    let one = neither_taken (c.after_sign-up.ensures _ c.next-token.ensures Fixed.plus_plus refl) (c.after_sign.ensures _ c.next-token.ensures Fixed.minus_minus refl) c.or-one.ensures c.in_default.is in
    let many = neither_taken (c.after_sign-add.ensures _ c.next-token.ensures Fixed.plus_equals refl) (c.after_sign-2.ensures _ c.next-token.ensures Fixed.minus_equals refl) c.or.ensures c.in_err-many.was in
    let it = many.1 in
    rw
    (exit _ c.from_residual.ensures.1)
    (refuses_all
    it
    (λ p. (unlike_it it one.0, (unlike_it it one.1.lacks, (unlike_it it many.0, (unlike_it it it.lacks, tt))))))

pub returns-in_err-number : goal.returns-in_err-number
returns-in_err-number c a =
    let many = either_taken (c.after_sign-add.ensures _ c.next-token.ensures Fixed.plus_equals refl) (c.after_sign-2.ensures _ c.next-token.ensures Fixed.minus_equals refl) c.or.ensures c.in_ok-many.was in
    rw
    (exit _ c.from_residual-in_err-number.ensures.1)
    (onward
    (⊎_elim (λ h. took_with h _ refl refl refl) (λ h. took_with h _ refl refl refl) many)
    (stop _ (c.number.ensures a) c.in_err-number.was))

pub returns : goal.returns
returns c a =
    let many = either_taken (c.after_sign-add.ensures _ c.next-token.ensures Fixed.plus_equals refl) (c.after_sign-2.ensures _ c.next-token.ensures Fixed.minus_equals refl) c.or.ensures c.in_ok-many.was in
    onward
    (⊎_elim (λ h. took_with h _ refl refl refl) (λ h. took_with h _ refl refl refl) many)
    (then _ (c.number.ensures a) c.in_ok-number.was (exactly (c.sign-2.ensures Fixed.semicolon refl)))
