-- The word says to which mark it goes.
use mathlib.Core.Path.{◌∙◌}
use Rattle.compiler.proofs.Seeing.{word_in_text, missed_word, passes_in, first_from}
use Rattle.compiler.proofs.Stepping.{step_room, step_emits, lend_stepping, rend_stepping_past}
use Rattle.compiler.proofs.Emitter.emit_goto.Goals as goal

pub step-requires : goal.step-requires
step-requires c =
    let d = c.requires.doing in
    let lend = word_in_text c.skip.ensures.text ((c.past_word.ensures c.next-token.ensures).hit c.if-past_word.true) in
    step_room d (lend_stepping c.skip.ensures.passes d lend)

pub returns-then-past_word : goal.returns-then-past_word
returns-then-past_word c =
    let lend = word_in_text c.skip.ensures.text ((c.past_word.ensures c.next-token.ensures).hit c.if-past_word.true) in
    step_emits ((c.past_word.ensures c.next-token.ensures).text ∙ c.skip.ensures.text) c.requires (record { on = λ d. lend_stepping c.skip.ensures.passes d lend }) c.step.ensures

pub step-requires-else-past_word : goal.step-requires-else-past_word
step-requires-else-past_word c =
    let d = c.requires.doing in
    let miss = (c.past_word.ensures c.next-token.ensures).miss c.if-past_word.false in
    let missed = missed_word c.skip.ensures miss in
    let skips = c.past.ensures (first_from miss.1 c.next-token.ensures) in
    step_room d (rend_stepping_past missed.0.passes d missed.1 (passes_in missed.0.text skips))

pub returns-else-past_word : goal.returns-else-past_word
returns-else-past_word c =
    let miss = (c.past_word.ensures c.next-token.ensures).miss c.if-past_word.false in
    let missed = missed_word c.skip.ensures miss in
    let skips = c.past.ensures (first_from miss.1 c.next-token.ensures) in
    step_emits
    (skips.text ∙ missed.0.text)
    c.requires
    (record { on = λ d. rend_stepping_past missed.0.passes d missed.1 (passes_in missed.0.text skips) })
    c.step-else-past_word.ensures
