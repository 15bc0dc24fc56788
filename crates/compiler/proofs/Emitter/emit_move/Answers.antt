-- The sign behind the parenthesis says whether it goes back.
use native.Mathlib.Omega.{arith}
use mathlib.Core.Path.{◌∙◌}
use Rattle.compiler.proofs.Seeing.{sign_in_text, missed_sign, first_from}
use Rattle.compiler.proofs.Stepping.{step_room, step_emits, at_number, counted_small, counted_stepping, back_counted, forward_counted}
use Rattle.compiler.proofs.Emitter.emit_move.Goals as goal

pub number-n-requires : goal.number-n-requires
number-n-requires c =
    let minus = sign_in_text c.skip.ensures.text ((c.past_sign.ensures c.next-token.ensures).hit c.if-past_sign.true) in
    at_number _ ((c.past_sign.ensures c.next-token.ensures).text ∙ c.skip.ensures.text) (back_counted c.skip.ensures.passes c.requires.doing minus)

pub overflow_sub-n : goal.overflow_sub-n
overflow_sub-n c =
    let minus = sign_in_text c.skip.ensures.text ((c.past_sign.ensures c.next-token.ensures).hit c.if-past_sign.true) in
    omega (arith, counted_small _ ((c.past_sign.ensures c.next-token.ensures).text ∙ c.skip.ensures.text) (back_counted c.skip.ensures.passes c.requires.doing minus) c.number-n.ensures)

pub step-requires : goal.step-requires
step-requires c =
    let d = c.requires.doing in
    let minus = sign_in_text c.skip.ensures.text ((c.past_sign.ensures c.next-token.ensures).hit c.if-past_sign.true) in
    step_room d (counted_stepping _ ((c.past_sign.ensures c.next-token.ensures).text ∙ c.skip.ensures.text) (back_counted c.skip.ensures.passes d minus) c.number-n.ensures)

pub returns-then-past_sign : goal.returns-then-past_sign
returns-then-past_sign c =
    let minus = sign_in_text c.skip.ensures.text ((c.past_sign.ensures c.next-token.ensures).hit c.if-past_sign.true) in
    let text = (c.past_sign.ensures c.next-token.ensures).text ∙ c.skip.ensures.text in
    let n = c.number-n.ensures in
    step_emits (n.text ∙ text) c.requires (record { on = λ d. counted_stepping _ text (back_counted c.skip.ensures.passes d minus) n }) c.step.ensures

pub past_number-n-requires : goal.past_number-n-requires
past_number-n-requires c =
    let missed = missed_sign c.skip.ensures ((c.past_sign.ensures c.next-token.ensures).miss c.if-past_sign.false) in (
      at_number _ missed.0.text (forward_counted missed.0.passes c.requires.doing missed.1),
      first_from ((c.past_sign.ensures c.next-token.ensures).miss c.if-past_sign.false).1 c.next-token.ensures,
    )

pub overflow_add-n : goal.overflow_add-n
overflow_add-n c =
    let missed = missed_sign c.skip.ensures ((c.past_sign.ensures c.next-token.ensures).miss c.if-past_sign.false) in
    omega (arith, counted_small _ missed.0.text (forward_counted missed.0.passes c.requires.doing missed.1) c.past_number-n.ensures)

pub step-requires-else-past_sign : goal.step-requires-else-past_sign
step-requires-else-past_sign c =
    let d = c.requires.doing in
    let missed = missed_sign c.skip.ensures ((c.past_sign.ensures c.next-token.ensures).miss c.if-past_sign.false) in
    step_room d (counted_stepping _ missed.0.text (forward_counted missed.0.passes d missed.1) c.past_number-n.ensures)

pub returns-else-past_sign : goal.returns-else-past_sign
returns-else-past_sign c =
    let missed = missed_sign c.skip.ensures ((c.past_sign.ensures c.next-token.ensures).miss c.if-past_sign.false) in
    let n = c.past_number-n.ensures in
    step_emits (n.text ∙ missed.0.text) c.requires (record { on = λ d. counted_stepping _ missed.0.text (forward_counted missed.0.passes d missed.1) n }) c.step-else-past_sign.ensures
