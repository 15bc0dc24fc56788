-- The cycle of calls of blocks and statements. The measure is three for each byte of the text that is left, and a rank.
use native.Mathlib.Omega.{arith}
use mathlib.Core.Path.{refl, ◌∙◌, ap}
use lib.ListN.{length}
use Rattle.text.specs.declared.Word.TheVariants as Word
use Rattle.compiler.specs.declared.see.Cursor.{Cursor}
use Rattle.compiler.proofs.Seeing.{word_in_text, no_word_in_text}
use Rattle.compiler.proofs.Emission.{ready, ready_in, ready_at, emits_in, emits_at, emits_until, same_then}
use Rattle.compiler.proofs.Nesting.{
  settled,
  inside_doing,
  inside_onward,
  body_some,
  body_room,
  body_emitted,
  else_doing,
  else_onward,
  without_room,
  without_emitted,
  if_few,
  if_asking,
  if_holding,
  if_failing,
  if_emitted,
  loop_few,
  loop_entry,
  loop_body,
  loop_emitted,
}
use Rattle.compiler.proofs.Branching.{
  arms_few,
  arms_room,
  arm_doing,
  arms_last,
  also-onward,
  more_doing,
  more_emitted,
  branch_few,
  branch_doing,
}
use Rattle.compiler.proofs.Stating.{
  statement_at_word,
  named,
  unnamed,
  headed_ready,
  headed_onward,
  headed_emits,
  rejects_few,
  rejects_emit,
  brace_emitted,
  brace_onward,
  statement_doing,
  rest_doing,
  rest_some,
  then_emitted,
}
use Rattle.compiler.proofs.Emitter.+blocks.Goals as goal

pub emit_arms-add_free-requires : goal.emit_arms-add_free-requires
emit_arms-add_free-requires t c = arms_room (settled c.requires.doing)

pub emit_arms-overflow_add-self : goal.emit_arms-overflow_add-self
emit_arms-overflow_add-self t c = omega (arith, arms_few (settled c.requires.doing))

pub emit_arms-emit_block-requires : goal.emit_arms-emit_block-requires
emit_arms-emit_block-requires t c =
    (omega (arith, c.decreases), ready (arm_doing (settled c.requires.doing) c.add_free.ensures.writes))

pub emit_arms-emit_arms-requires : goal.emit_arms-emit_arms-requires
emit_arms-emit_arms-requires t c =
    let d = settled c.requires.doing in
    let arm = c.emit_block.ensures in
    let e = arm.emits (arm_doing d c.add_free.ensures.writes) in
    let also = word_in_text arm.text (c.eat_word.ensures.hit c.if-eat_word.true) in
    let text = c.eat_word.ensures.text ∙ arm.text in (
      omega (arith, c.decreases, arm.onward, also-onward d e also, ap length text),
      ready_in text (more_doing d e also),
    )

pub emit_arms-returns-then-eat_word : goal.emit_arms-returns-then-eat_word
emit_arms-returns-then-eat_word t c =
    let arm = c.emit_block.ensures in
    let writes = c.add_free.ensures.writes in
    let also = word_in_text arm.text (c.eat_word.ensures.hit c.if-eat_word.true) in
    let text = c.eat_word.ensures.text ∙ arm.text in
    let more = c.emit_arms.ensures in
    let d₀ = settled c.requires.doing in
    let e₀ = arm.emits (arm_doing d₀ writes) in
    record {
      emits = λ d'.
          let d = settled d' in
          let e = arm.emits (arm_doing d writes) in
          more_emitted d e also (emits_in more text (more_doing d e also));
      onward = omega (arith, arm.onward, also-onward d₀ e₀ also, more.onward);
      text = more.text ∙ text;
      same = same_then (same_then (record { name = refl; out = c.add_free.ensures.out }) arm.same) more.same;
    }

pub emit_arms-returns-else-eat_word : goal.emit_arms-returns-else-eat_word
emit_arms-returns-else-eat_word t c =
    let arm = c.emit_block.ensures in
    let miss = c.eat_word.ensures.miss c.if-eat_word.false in
    emits_until miss.1
    (record {
      emits = λ d'.
          let d = settled d' in
          arms_last d (arm.emits (arm_doing d c.add_free.ensures.writes)) (no_word_in_text arm.text miss.0);
      onward = arm.onward;
      text = arm.text;
      same = same_then (record { name = refl; out = c.add_free.ensures.out }) arm.same;
    })

pub emit_block-emit_statements-requires : goal.emit_block-emit_statements-requires
emit_block-emit_statements-requires t c =
    let d = c.requires.doing in
    let enters = c.skip.ensures in (
      omega (arith, c.decreases, inside_onward enters.passes d, body_some enters.passes d, ap length enters.text),
      ready_in enters.text (inside_doing enters.passes d),
    )

pub emit_block-add_free-requires : goal.emit_block-add_free-requires
emit_block-add_free-requires t c =
    let d = c.requires.doing in
    let enters = c.skip.ensures in
    body_room enters.passes d (emits_in c.emit_statements.ensures enters.text (inside_doing enters.passes d))

pub emit_block-returns : goal.emit_block-returns
emit_block-returns t c =
    let enters = c.skip.ensures in
    let inside = c.emit_statements.ensures in
    record {
      emits = λ d. body_emitted enters.passes d (emits_in inside enters.text (inside_doing enters.passes d)) c.add_free.ensures.writes;
      onward = omega (arith, inside_onward enters.passes c.requires.doing, inside.onward);
      text = inside.text ∙ enters.text;
      same = same_then inside.same (record { name = refl; out = c.add_free.ensures.out });
    }

pub emit_branch-overflow_add-self : goal.emit_branch-overflow_add-self
emit_branch-overflow_add-self t c = omega (arith, branch_few (settled c.requires.doing))

pub emit_branch-emit_arms-requires : goal.emit_branch-emit_arms-requires
emit_branch-emit_arms-requires t c = (omega (arith, c.decreases), ready (branch_doing (settled c.requires.doing)))

pub emit_branch-returns : goal.emit_branch-returns
emit_branch-returns t c =
    let more = c.emit_arms.ensures in
    record {
      emits = λ d. more.emits (branch_doing (settled d));
      onward = more.onward;
      text = more.text;
      same = more.same;
    }

pub emit_else-emit_block-requires : goal.emit_else-emit_block-requires
emit_else-emit_block-requires t c =
    let d = c.requires.doing in
    let eats = c.eat_word.ensures in
    let hit = eats.hit c.if-eat_word.true in
    (omega (arith, c.decreases, else_onward d hit, ap length eats.text), ready_in eats.text (else_doing d hit))

pub emit_else-add_free-requires : goal.emit_else-add_free-requires
emit_else-add_free-requires t c = without_room c.requires.doing (c.eat_word.ensures.miss c.if-eat_word.false).0

pub emit_else-returns-then-eat_word : goal.emit_else-returns-then-eat_word
emit_else-returns-then-eat_word t c =
    let eats = c.eat_word.ensures in
    let hit = eats.hit c.if-eat_word.true in
    let block = c.emit_block.ensures in
    record {
      emits = λ d. emits_in block eats.text (else_doing d hit);
      onward = omega (arith, else_onward c.requires.doing hit, block.onward);
      text = block.text ∙ eats.text;
      same = block.same;
    }

pub emit_else-returns-else-eat_word : goal.emit_else-returns-else-eat_word
emit_else-returns-else-eat_word t c =
    let miss = c.eat_word.ensures.miss c.if-eat_word.false in
    emits_until miss.1 (record { emits = λ d. without_emitted d miss.0 c.add_free.ensures.writes; onward = omega arith; text = refl; same = (record { name = refl; out = c.add_free.ensures.out }) })

pub emit_if-overflow_add-yes : goal.emit_if-overflow_add-yes
emit_if-overflow_add-yes t c = omega (arith, if_few (settled c.requires.doing))

pub emit_if-overflow_add-no : goal.emit_if-overflow_add-no
emit_if-overflow_add-no t c = omega (arith, if_few (settled c.requires.doing))

pub emit_if-overflow_add-self : goal.emit_if-overflow_add-self
emit_if-overflow_add-self t c = omega (arith, if_few (settled c.requires.doing))

pub emit_if-emit_condition-requires : goal.emit_if-emit_condition-requires
emit_if-emit_condition-requires t c = ready (if_asking (settled c.requires.doing))

pub emit_if-emit_block-requires : goal.emit_if-emit_block-requires
emit_if-emit_block-requires t c =
    let d = settled c.requires.doing in
    let asked = c.emit_condition.ensures in (
      omega (arith, c.decreases, asked.onward, ap length asked.text),
      ready_in asked.text (if_holding d (asked.emits (if_asking d))),
    )

pub emit_if-emit_else-requires : goal.emit_if-emit_else-requires
emit_if-emit_else-requires t c =
    let d = settled c.requires.doing in
    let asked = c.emit_condition.ensures in
    let first = c.emit_block.ensures in
    let text = first.text ∙ asked.text in
    let e = asked.emits (if_asking d) in (
      omega (arith, c.decreases, asked.onward, first.onward, ap length text),
      ready_in text (if_failing d e (emits_in first asked.text (if_holding d e))),
    )

pub emit_if-returns : goal.emit_if-returns
emit_if-returns t c =
    let asked = c.emit_condition.ensures in
    let first = c.emit_block.ensures in
    let last = c.emit_else.ensures in
    let text = first.text ∙ asked.text in
    record {
      emits = λ d'.
          let d = settled d' in
          let e = asked.emits (if_asking d) in
          let f = emits_in first asked.text (if_holding d e) in
          if_emitted d e f (emits_in last text (if_failing d e f));
      onward = omega (arith, asked.onward, first.onward, last.onward);
      text = last.text ∙ text;
      same = same_then (same_then asked.same first.same) last.same;
    }

pub emit_statement-word-requires : goal.emit_statement-word-requires
emit_statement-word-requires t c = statement_at_word c.requires

pub emit_statement-emit_move-requires : goal.emit_statement-emit_move-requires
emit_statement-emit_move-requires t c = headed_ready c.word.new.self c.word.ensures.text c.requires (named Word.Move _ (λ bytes which. which) c.word.ensures.seen c.in-Move.is)

pub emit_statement-returns-in-Move : goal.emit_statement-returns-in-Move
emit_statement-returns-in-Move t c =
    headed_emits c.word.new.self c.word.ensures.text c.requires (named Word.Move _ (λ bytes which. which) c.word.ensures.seen c.in-Move.is) c.emit_move.ensures

pub emit_statement-emit_goto-requires : goal.emit_statement-emit_goto-requires
emit_statement-emit_goto-requires t c = headed_ready c.word.new.self c.word.ensures.text c.requires (named Word.Goto _ (λ bytes which. which) c.word.ensures.seen c.in-Goto.is)

pub emit_statement-returns-in-Goto : goal.emit_statement-returns-in-Goto
emit_statement-returns-in-Goto t c =
    headed_emits c.word.new.self c.word.ensures.text c.requires (named Word.Goto _ (λ bytes which. which) c.word.ensures.seen c.in-Goto.is) c.emit_goto.ensures

pub emit_statement-emit_change-requires : goal.emit_statement-emit_change-requires
emit_statement-emit_change-requires t c = headed_ready c.word.new.self c.word.ensures.text c.requires (named Word.C _ (λ bytes which. which) c.word.ensures.seen c.in-C.is)

pub emit_statement-returns-in-C : goal.emit_statement-returns-in-C
emit_statement-returns-in-C t c =
    headed_emits c.word.new.self c.word.ensures.text c.requires (named Word.C _ (λ bytes which. which) c.word.ensures.seen c.in-C.is) c.emit_change.ensures

pub emit_statement-emit_accept-requires : goal.emit_statement-emit_accept-requires
emit_statement-emit_accept-requires t c = headed_ready c.word.new.self c.word.ensures.text c.requires (named Word.Accept _ (λ bytes which. which) c.word.ensures.seen c.in-Accept.is)

pub emit_statement-returns-in-Accept : goal.emit_statement-returns-in-Accept
emit_statement-returns-in-Accept t c =
    headed_emits c.word.new.self c.word.ensures.text c.requires (named Word.Accept _ (λ bytes which. which) c.word.ensures.seen c.in-Accept.is) c.emit_accept.ensures

pub emit_statement-emit_if-requires : goal.emit_statement-emit_if-requires
emit_statement-emit_if-requires t c =
    let a = named Word.If _ (λ bytes which. which) c.word.ensures.seen c.in-If.is in
    let text = c.word.ensures.text in
    (omega (arith, c.decreases, headed_onward c.word.new.self text c.requires a, ap length text), headed_ready c.word.new.self text c.requires a)

pub emit_statement-returns-in-If : goal.emit_statement-returns-in-If
emit_statement-returns-in-If t c =
    headed_emits c.word.new.self c.word.ensures.text c.requires (named Word.If _ (λ bytes which. which) c.word.ensures.seen c.in-If.is) c.emit_if.ensures

pub emit_statement-emit_while-requires : goal.emit_statement-emit_while-requires
emit_statement-emit_while-requires t c =
    let a = named Word.While _ (λ bytes which. which) c.word.ensures.seen c.in-While.is in
    let text = c.word.ensures.text in
    (omega (arith, c.decreases, headed_onward c.word.new.self text c.requires a, ap length text), headed_ready c.word.new.self text c.requires a)

pub emit_statement-returns-in-While : goal.emit_statement-returns-in-While
emit_statement-returns-in-While t c =
    headed_emits c.word.new.self c.word.ensures.text c.requires (named Word.While _ (λ bytes which. which) c.word.ensures.seen c.in-While.is) c.emit_while.ensures

pub emit_statement-emit_stop-requires : goal.emit_statement-emit_stop-requires
emit_statement-emit_stop-requires t c = rejects_few c.word.new.self c.word.ensures.text c.requires (named Word.Reject _ (λ bytes which. which) c.word.ensures.seen c.in-Reject.is)

pub emit_statement-returns-in-Reject : goal.emit_statement-returns-in-Reject
emit_statement-returns-in-Reject t c = rejects_emit c.word.new.self c.word.ensures.text c.requires (named Word.Reject _ (λ bytes which. which) c.word.ensures.seen c.in-Reject.is) c.emit_stop.ensures

pub emit_statement-emit_branch-requires : goal.emit_statement-emit_branch-requires
emit_statement-emit_branch-requires t c =
    let a = unnamed c.word.ensures.seen (record { no_move = c.in_default.not-Move; no_goto = c.in_default.not-Goto; no_c = c.in_default.not-C; no_accept = c.in_default.not-Accept; no_reject = c.in_default.not-Reject; no_if = c.in_default.not-If; no_while = c.in_default.not-While }) in
    let text = c.word.ensures.text in
    (omega (arith, c.decreases, headed_onward c.word.new.self text c.requires a, ap length text), headed_ready c.word.new.self text c.requires a)

pub emit_statement-returns-in_default : goal.emit_statement-returns-in_default
emit_statement-returns-in_default t c =
    headed_emits c.word.new.self c.word.ensures.text c.requires (unnamed c.word.ensures.seen (record { no_move = c.in_default.not-Move; no_goto = c.in_default.not-Goto; no_c = c.in_default.not-C; no_accept = c.in_default.not-Accept; no_reject = c.in_default.not-Reject; no_if = c.in_default.not-If; no_while = c.in_default.not-While })) c.emit_branch.ensures

pub emit_statements-emit_statement-requires : goal.emit_statements-emit_statement-requires
emit_statements-emit_statement-requires t c =
    let miss = c.eat_sign.ensures.miss c.if-not-eat_sign.true in (
      omega (arith, c.decreases, ap (λ (k : Cursor). length k.text.now) miss.1, ap (λ (k : Cursor). k.at) miss.1),
      ready_at miss.1 (ready (statement_doing c.requires.doing miss.0)),
    )

pub emit_statements-emit_statements-requires : goal.emit_statements-emit_statements-requires
emit_statements-emit_statements-requires t c =
    let d = c.requires.doing in
    let miss = c.eat_sign.ensures.miss c.if-not-eat_sign.true in
    let first = emits_at miss.1 c.emit_statement.ensures.0 in (
      omega (
        arith,
        c.decreases,
        c.emit_statement.ensures.1,
        rest_some d miss.0,
        ap (λ (k : Cursor). k.at) miss.1,
        ap length first.text,
      ),
      ready_in first.text (rest_doing d miss.0 (first.emits (statement_doing d miss.0))),
    )

pub emit_statements-returns-then-not-eat_sign : goal.emit_statements-returns-then-not-eat_sign
emit_statements-returns-then-not-eat_sign t c =
    let miss = c.eat_sign.ensures.miss c.if-not-eat_sign.true in
    let first = emits_at miss.1 c.emit_statement.ensures.0 in
    let last = c.emit_statements.ensures in
    record {
      emits = λ d.
          let e = first.emits (statement_doing d miss.0) in
          then_emitted d miss.0 e (emits_in last first.text (rest_doing d miss.0 e));
      onward = omega (arith, first.onward, last.onward);
      text = last.text ∙ first.text;
      same = same_then first.same last.same;
    }

pub emit_statements-returns-else-not-eat_sign : goal.emit_statements-returns-else-not-eat_sign
emit_statements-returns-else-not-eat_sign t c =
    let hit = c.eat_sign.ensures.hit c.if-not-eat_sign.false in
    record {
      emits = λ d. brace_emitted d hit;
      onward = brace_onward c.requires.doing hit;
      text = c.eat_sign.ensures.text;
      same = record { name = refl; out = refl };
    }

pub emit_while-overflow_add-into : goal.emit_while-overflow_add-into
emit_while-overflow_add-into t c = omega (arith, loop_few (settled c.requires.doing))

pub emit_while-overflow_add-self : goal.emit_while-overflow_add-self
emit_while-overflow_add-self t c = omega (arith, loop_few (settled c.requires.doing))

pub emit_while-emit_entry-requires : goal.emit_while-emit_entry-requires
emit_while-emit_entry-requires t c = ready (loop_entry (settled c.requires.doing))

pub emit_while-emit_block-requires : goal.emit_while-emit_block-requires
emit_while-emit_block-requires t c =
    let d = settled c.requires.doing in
    let entered = c.emit_entry.ensures in (
      omega (arith, c.decreases, entered.onward, ap length entered.text),
      ready_in entered.text (loop_body d (entered.emits (loop_entry d))),
    )

pub emit_while-returns : goal.emit_while-returns
emit_while-returns t c =
    let entered = c.emit_entry.ensures in
    let block = c.emit_block.ensures in
    record {
      emits = λ d'.
          let d = settled d' in
          let e = entered.emits (loop_entry d) in
          loop_emitted d e (emits_in block entered.text (loop_body d e));
      onward = omega (arith, entered.onward, block.onward);
      text = block.text ∙ entered.text;
      same = same_then entered.same block.same;
    }
