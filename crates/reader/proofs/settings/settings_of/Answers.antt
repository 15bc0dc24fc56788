-- `reader::settings::settings_of` meets its contract.
use mathlib.Core.Path.{refl}
use mathlib.Core.List.{[], ◌∷◌}
use Rattle.rule.specs.Inside.Class.{Fixed}
use Rattle.rule.specs.Inside.Machine.{program, body}
use Rattle.atoms.proofs.Exits.{exit}
use Rattle.reader.proofs.Moves.{started, went, arrives_on, stop, took_with}
use Rattle.reader.proofs.Taken.{taken, missed_one, refuses_unlike, refuses_both}
use Rattle.reader.proofs.Listed.{with_onward, with_over, with_gone, with_stopped, with_refused_on}
use Rattle.reader.proofs.settings.settings_of.Goals as goal

pub returns-in_err-truth : goal.returns-in_err-truth
returns-in_err-truth c =
    let first = started (program ∷ []) c.new-first.ensures in
    let decrement = arrives_on first (took_with (taken (c.after_word.ensures _ c.next-token.ensures _ Fixed.decr_on_zero refl refl) c.in-Ok.is) _ refl refl refl) in
    rw (exit _ c.from_residual.ensures.1) (with_refused_on decrement (stop _ (c.truth.ensures []) c.in_err-truth.was))

pub returns-in_err-word : goal.returns-in_err-word
returns-in_err-word c =
    let first = started (program ∷ []) c.new-first.ensures in
    let decrement = arrives_on first (took_with (taken (c.after_word.ensures _ c.next-token.ensures _ Fixed.decr_on_zero refl refl) c.in-Ok.is) _ refl refl refl) in
    let said = arrives_on decrement (went _ (c.truth.ensures []) c.in_ok-truth.was) in
    rw
    (exit _ c.from_residual-in_err-word.ensures.1)
    (with_refused_on said (refuses_unlike (missed_one (c.word.ensures _ Fixed.alphabet refl refl) c.in_err-word.was) (λ p k n. (n, tt))))

pub returns-in-Ok : goal.returns-in-Ok
returns-in-Ok c =
    let first = started (program ∷ []) c.new-first.ensures in
    let decrement = arrives_on first (took_with (taken (c.after_word.ensures _ c.next-token.ensures _ Fixed.decr_on_zero refl refl) c.in-Ok.is) _ refl refl refl) in
    let said = arrives_on decrement (went _ (c.truth.ensures []) c.in_ok-truth.was) in
    let alphabet = arrives_on said (took_with (taken (c.word.ensures _ Fixed.alphabet refl refl) c.in_ok-word.was) _ refl refl refl) in
    with_onward alphabet (with_over (body ∷ []) c.alphabet.ensures)

pub returns-in_err-after_word : goal.returns-in_err-after_word
returns-in_err-after_word c =
    let first = started (program ∷ []) c.new-first.ensures in
    rw
    (exit _ c.from_residual-in_err-after_word.ensures.1)
    (with_refused_on
    first
    (refuses_both
    (missed_one (c.after_word-2.ensures _ c.next-token.ensures _ Fixed.alphabet refl refl) c.in_err-after_word.was)
    (missed_one (c.after_word.ensures _ c.next-token.ensures _ Fixed.decr_on_zero refl refl) c.in_default.is).lacks
    (λ p k l r. (r, (l, tt)))))

pub returns-in_err-reader : goal.returns-in_err-reader
returns-in_err-reader c =
    let first = started (program ∷ []) c.new-first.ensures in
    let alphabet = arrives_on first (took_with (taken (c.after_word-2.ensures _ c.next-token.ensures _ Fixed.alphabet refl refl) c.in_ok-after_word.was) _ refl refl refl) in
    rw (exit _ c.from_residual-in_err-reader.ensures.1) (with_onward alphabet (with_stopped _ c.alphabet-2.ensures c.in_err-reader.was))

pub returns-in_err-decrement : goal.returns-in_err-decrement
returns-in_err-decrement c =
    let first = started (program ∷ []) c.new-first.ensures in
    let alphabet = arrives_on first (took_with (taken (c.after_word-2.ensures _ c.next-token.ensures _ Fixed.alphabet refl refl) c.in_ok-after_word.was) _ refl refl refl) in
    let listed = arrives_on alphabet (with_gone _ c.alphabet-2.ensures c.in_ok-reader.was) in
    rw
    (exit _ c.from_residual-in_err-decrement.ensures.1)
    (with_refused_on listed (refuses_unlike (missed_one (c.word-2.ensures _ Fixed.decr_on_zero refl refl) c.in_err-decrement.was) (λ p k n. (n, tt))))

pub returns-in_err-truth-2 : goal.returns-in_err-truth-2
returns-in_err-truth-2 c =
    let first = started (program ∷ []) c.new-first.ensures in
    let alphabet = arrives_on first (took_with (taken (c.after_word-2.ensures _ c.next-token.ensures _ Fixed.alphabet refl refl) c.in_ok-after_word.was) _ refl refl refl) in
    let listed = arrives_on alphabet (with_gone _ c.alphabet-2.ensures c.in_ok-reader.was) in
    let decrement = arrives_on listed (took_with (taken (c.word-2.ensures _ Fixed.decr_on_zero refl refl) c.in_ok-decrement.was) _ refl refl refl) in
    rw (exit _ c.from_residual-in_err-truth-2.ensures.1) (with_refused_on decrement (stop _ (c.truth-2.ensures _) c.in_err-truth-2.was))

pub returns : goal.returns
returns c =
    let first = started (program ∷ []) c.new-first.ensures in
    let alphabet = arrives_on first (took_with (taken (c.after_word-2.ensures _ c.next-token.ensures _ Fixed.alphabet refl refl) c.in_ok-after_word.was) _ refl refl refl) in
    let listed = arrives_on alphabet (with_gone _ c.alphabet-2.ensures c.in_ok-reader.was) in
    let decrement = arrives_on listed (took_with (taken (c.word-2.ensures _ Fixed.decr_on_zero refl refl) c.in_ok-decrement.was) _ refl refl refl) in
    record { right = arrives_on decrement (went _ (c.truth-2.ensures _) c.in_ok-truth-2.was) }
