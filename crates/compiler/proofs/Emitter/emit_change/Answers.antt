-- The sign says how the counter changes.
use native.Mathlib.Omega.{arith}
use mathlib.Core.Path.{◌∙◌}
use Rattle.compiler.proofs.Seeing.{eats_again, skips_again}
use Rattle.compiler.proofs.Stepping.{step_room, step_emits, at_number, counted_small, counted_stepping, up_stepping, down_stepping, up_counted, down_counted}
use Rattle.compiler.proofs.Emitter.emit_change.Goals as goal

pub step-requires : goal.step-requires
step-requires c =
    let d = c.requires.doing in
    step_room d (up_stepping d ((c.past_sign.ensures c.next-token.ensures).hit c.if-past_sign.true))

pub returns-then-past_sign : goal.returns-then-past_sign
returns-then-past_sign c =
    let eats = c.past_sign.ensures c.next-token.ensures in
    step_emits eats.text c.requires (record { on = λ d. up_stepping d (eats.hit c.if-past_sign.true) }) c.step.ensures

pub step-requires-then-past_sign-2 : goal.step-requires-then-past_sign-2
step-requires-then-past_sign-2 c =
    let d = c.requires.doing in
    let eats = eats_again ((c.past_sign.ensures c.next-token.ensures).miss c.if-past_sign.false).1 c.next-token.ensures c.past_sign-else-past_sign.ensures in
    step_room d (down_stepping d (eats.hit c.if-past_sign-2.true))

pub returns-then-past_sign-2 : goal.returns-then-past_sign-2
returns-then-past_sign-2 c =
    let eats = eats_again ((c.past_sign.ensures c.next-token.ensures).miss c.if-past_sign.false).1 c.next-token.ensures c.past_sign-else-past_sign.ensures in
    step_emits eats.text c.requires (record { on = λ d. down_stepping d (eats.hit c.if-past_sign-2.true) }) c.step-then-past_sign-2.ensures

pub number-n-requires : goal.number-n-requires
number-n-requires c =
    let second = eats_again ((c.past_sign.ensures c.next-token.ensures).miss c.if-past_sign.false).1 c.next-token.ensures c.past_sign-else-past_sign.ensures in
    let eats = eats_again (second.miss c.if-past_sign-2.false).1 c.next-token.ensures c.past_sign-else-past_sign-2.ensures in
    at_number _ eats.text (up_counted c.requires.doing (eats.hit c.if-past_sign-3.true))

pub overflow_add-n : goal.overflow_add-n
overflow_add-n c =
    let second = eats_again ((c.past_sign.ensures c.next-token.ensures).miss c.if-past_sign.false).1 c.next-token.ensures c.past_sign-else-past_sign.ensures in
    let eats = eats_again (second.miss c.if-past_sign-2.false).1 c.next-token.ensures c.past_sign-else-past_sign-2.ensures in
    omega (arith, counted_small _ eats.text (up_counted c.requires.doing (eats.hit c.if-past_sign-3.true)) c.number-n.ensures)

pub step-requires-then-past_sign-3 : goal.step-requires-then-past_sign-3
step-requires-then-past_sign-3 c =
    let d = c.requires.doing in
    let second = eats_again ((c.past_sign.ensures c.next-token.ensures).miss c.if-past_sign.false).1 c.next-token.ensures c.past_sign-else-past_sign.ensures in
    let eats = eats_again (second.miss c.if-past_sign-2.false).1 c.next-token.ensures c.past_sign-else-past_sign-2.ensures in
    step_room d (counted_stepping _ eats.text (up_counted d (eats.hit c.if-past_sign-3.true)) c.number-n.ensures)

pub returns-then-past_sign-3 : goal.returns-then-past_sign-3
returns-then-past_sign-3 c =
    let second = eats_again ((c.past_sign.ensures c.next-token.ensures).miss c.if-past_sign.false).1 c.next-token.ensures c.past_sign-else-past_sign.ensures in
    let eats = eats_again (second.miss c.if-past_sign-2.false).1 c.next-token.ensures c.past_sign-else-past_sign-2.ensures in
    let n = c.number-n.ensures in
    step_emits (n.text ∙ eats.text) c.requires (record { on = λ d. counted_stepping _ eats.text (up_counted d (eats.hit c.if-past_sign-3.true)) n }) c.step-then-past_sign-3.ensures

pub number-n-requires-else-past_sign-3 : goal.number-n-requires-else-past_sign-3
number-n-requires-else-past_sign-3 c =
    let first = (c.past_sign.ensures c.next-token.ensures).miss c.if-past_sign.false in
    let second = (eats_again first.1 c.next-token.ensures c.past_sign-else-past_sign.ensures).miss c.if-past_sign-2.false in
    let third = (eats_again second.1 c.next-token.ensures c.past_sign-else-past_sign-2.ensures).miss c.if-past_sign-3.false in
    let skips = skips_again third.1 c.next-token.ensures c.past.ensures in
    at_number _ skips.text (down_counted c.requires.doing skips.passes first.0 second.0 third.0)

pub overflow_sub-n : goal.overflow_sub-n
overflow_sub-n c =
    let first = (c.past_sign.ensures c.next-token.ensures).miss c.if-past_sign.false in
    let second = (eats_again first.1 c.next-token.ensures c.past_sign-else-past_sign.ensures).miss c.if-past_sign-2.false in
    let third = (eats_again second.1 c.next-token.ensures c.past_sign-else-past_sign-2.ensures).miss c.if-past_sign-3.false in
    let skips = skips_again third.1 c.next-token.ensures c.past.ensures in
    omega (arith, counted_small _ skips.text (down_counted c.requires.doing skips.passes first.0 second.0 third.0) c.number-n-else-past_sign-3.ensures)

pub step-requires-else-past_sign-3 : goal.step-requires-else-past_sign-3
step-requires-else-past_sign-3 c =
    let d = c.requires.doing in
    let first = (c.past_sign.ensures c.next-token.ensures).miss c.if-past_sign.false in
    let second = (eats_again first.1 c.next-token.ensures c.past_sign-else-past_sign.ensures).miss c.if-past_sign-2.false in
    let third = (eats_again second.1 c.next-token.ensures c.past_sign-else-past_sign-2.ensures).miss c.if-past_sign-3.false in
    let skips = skips_again third.1 c.next-token.ensures c.past.ensures in
    step_room d (counted_stepping _ skips.text (down_counted d skips.passes first.0 second.0 third.0) c.number-n-else-past_sign-3.ensures)

pub returns-else-past_sign-3 : goal.returns-else-past_sign-3
returns-else-past_sign-3 c =
    let first = (c.past_sign.ensures c.next-token.ensures).miss c.if-past_sign.false in
    let second = (eats_again first.1 c.next-token.ensures c.past_sign-else-past_sign.ensures).miss c.if-past_sign-2.false in
    let third = (eats_again second.1 c.next-token.ensures c.past_sign-else-past_sign-2.ensures).miss c.if-past_sign-3.false in
    let skips = skips_again third.1 c.next-token.ensures c.past.ensures in
    let n = c.number-n-else-past_sign-3.ensures in
    step_emits (n.text ∙ skips.text) c.requires (record { on = λ d. counted_stepping _ skips.text (down_counted d skips.passes first.0 second.0 third.0) n }) c.step-else-past_sign-3.ensures
