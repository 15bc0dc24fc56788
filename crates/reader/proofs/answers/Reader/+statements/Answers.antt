-- The cycle of calls of the readers of blocks and statements. Each call is nearer to the text's end, or of lower rank at the same
-- byte: statements above a statement, arms and what is guarded above a block.
use native.Mathlib.Omega.{arith}
use mathlib.Core.Path.{refl, ap}
use mathlib.Core.Logic.{⊎_elim}
use mathlib.Core.List.{[]}
use lib.ListN.{length}
use Prim.Native.Nat.{ℕ, ◌<◌}
use Rattle.rule.specs.Inside.Class.{Fixed}
use Rattle.reader.specs.Inside.Answers.{alphabet_of}
use Rattle.atoms.proofs.Exits.{exit}
use Rattle.reader.proofs.Moves.{here, went, arrives_on, arrived, onward, then, stop, over, took_with, took_counted, eats, eats_counted, room, nearer, counted_nearer, went_no_nearer}
use Rattle.reader.proofs.Taken.{exactly, taken, missed_one, moved_word, this_word, refuses_unlike, refuses_both}
use Rattle.reader.proofs.Depth.{full, shallow_lem, one_deeper, same_letters, break_here}
use Rattle.reader.proofs.Branches.{OtherWord, no_statement, no_statement_word, next_arm, ninth_arm}
use Rattle.reader.proofs.Peek.{no_else_here, no_also_here}
use Rattle.reader.proofs.answers.Reader.+statements.Goals as goal

pub block-returns-in_err-inside : goal.block-returns-in_err-inside
block-returns-in_err-inside t c =
    rw (exit _ c.from_residual.ensures.1) (refuses_unlike (missed_one (c.sign.ensures Fixed.begins refl) c.in_err-inside.was) (λ p k n. (n, tt)))

pub block-returns-in_default : goal.block-returns-in_default
block-returns-in_default t c =
    break_here (taken (c.sign.ensures Fixed.begins refl) c.in_ok-inside.was) c.refusal.ensures refl (full c.args.scope c.opened.ensures c.in_default.is) refl

pub block-statements-requires : goal.block-statements-requires
block-statements-requires t c =
    (omega (arith, c.decreases, nearer (taken (c.sign.ensures Fixed.begins refl) c.in_ok-inside.was)), tt)

pub block-returns : goal.block-returns
block-returns t c =
    let inner = c.in-Some.is in
    onward
    (took_with (taken (c.sign.ensures Fixed.begins refl) c.in_ok-inside.was) _ refl (shallow_lem c.args.scope c.opened.ensures inner) refl)
    (rw (one_deeper c.args.scope c.opened.ensures inner, same_letters c.args.scope c.opened.ensures inner) at c.statements.ensures)

pub guarded-returns : goal.guarded-returns
guarded-returns t c =
    then _ (rw (c.new.ensures.1, c.new.ensures.0) at c.condition.ensures) c.in_ok-condition.was c.block.ensures

pub behind_if-returns-in_err-sign : goal.behind_if-returns-in_err-sign
behind_if-returns-in_err-sign t c =
    rw (exit _ c.from_residual.ensures.1) (stop _ (exactly (c.sign.ensures Fixed.opens refl)) c.in_err-sign.was)

pub behind_if-guarded-requires : goal.behind_if-guarded-requires
behind_if-guarded-requires t c =
    (omega (arith, c.decreases, nearer (taken (c.sign.ensures Fixed.opens refl) c.in_ok-sign.was)), tt)

pub behind_if-returns-in_err-guarded : goal.behind_if-returns-in_err-guarded
behind_if-returns-in_err-guarded t c =
    rw (exit _ c.from_residual-in_err-guarded.ensures.1) (then _ (exactly (c.sign.ensures Fixed.opens refl)) c.in_ok-sign.was (stop _ c.guarded.ensures c.in_err-guarded.was))

pub behind_if-block-requires : goal.behind_if-block-requires
behind_if-block-requires t c =
    let opens = nearer (taken (c.sign.ensures Fixed.opens refl) c.in_ok-sign.was) in
    let guarded = went_no_nearer c.in_ok-sign.field-0 c.guarded.ensures c.in_ok-guarded.was in
    (omega (arith, c.decreases, opens, guarded, nearer (taken (c.word.ensures _ Fixed.else refl refl) c.in-Ok.is)), tt)

pub behind_if-returns-in-Ok : goal.behind_if-returns-in-Ok
behind_if-returns-in-Ok t c =
    then
    _
    (exactly (c.sign.ensures Fixed.opens refl))
    c.in_ok-sign.was
    (then
    _
    c.guarded.ensures
    c.in_ok-guarded.was
    (onward (took_with (taken (c.word.ensures _ Fixed.else refl refl) c.in-Ok.is) _ refl refl refl) (over _ c.block.ensures)))

pub behind_if-returns-in-Err : goal.behind_if-returns-in-Err
behind_if-returns-in-Err t c =
    then
    _
    (exactly (c.sign.ensures Fixed.opens refl))
    c.in_ok-sign.was
    (then
    _
    c.guarded.ensures
    c.in_ok-guarded.was
    (arrived (no_else_here (missed_one (c.word.ensures _ Fixed.else refl refl) c.in-Err.is).lacks)))

pub behind_while-counting-requires : goal.behind_while-counting-requires
behind_while-counting-requires t c =
    room (taken (c.after_word.ensures _ c.next-token.ensures _ Fixed.choose refl refl) c.in-Ok.is) (omega arith) (omega arith)

pub behind_while-block-requires : goal.behind_while-block-requires
behind_while-block-requires t c =
    (omega (arith, c.decreases, counted_nearer (taken (c.after_word.ensures _ c.next-token.ensures _ Fixed.choose refl refl) c.in-Ok.is) c.counting.ensures), tt)

pub behind_while-returns-in-Ok : goal.behind_while-returns-in-Ok
behind_while-returns-in-Ok t c =
    onward (took_counted (taken (c.after_word.ensures _ c.next-token.ensures _ Fixed.choose refl refl) c.in-Ok.is) _ c.counting.ensures refl refl refl) c.block.ensures

pub behind_while-returns-in_err-opened : goal.behind_while-returns-in_err-opened
behind_while-returns-in_err-opened t c =
    rw
    (exit _ c.from_residual.ensures.1)
    (refuses_both
    (missed_one (c.after_sign.ensures _ c.next-token.ensures Fixed.opens refl) c.in_err-opened.was)
    (missed_one (c.after_word.ensures _ c.next-token.ensures _ Fixed.choose refl refl) c.in_default.is).lacks
    (λ p k l r. (r, (l, tt))))

pub behind_while-counting-requires-2 : goal.behind_while-counting-requires-2
behind_while-counting-requires-2 t c =
    room (taken (c.after_sign.ensures _ c.next-token.ensures Fixed.opens refl) c.in_ok-opened.was) (omega arith) (omega arith)

pub behind_while-guarded-requires : goal.behind_while-guarded-requires
behind_while-guarded-requires t c =
    (omega (arith, c.decreases, counted_nearer (taken (c.after_sign.ensures _ c.next-token.ensures Fixed.opens refl) c.in_ok-opened.was) c.counting-2.ensures), tt)

pub behind_while-returns : goal.behind_while-returns
behind_while-returns t c =
    onward (took_counted (taken (c.after_sign.ensures _ c.next-token.ensures Fixed.opens refl) c.in_ok-opened.was) _ c.counting-2.ensures refl refl refl) c.guarded.ensures

pub behind_branch-returns-in_err-second : goal.behind_branch-returns-in_err-second
behind_branch-returns-in_err-second t c =
    rw
    (exit _ c.from_residual-in_err-second.ensures.1)
    (then _ c.block.ensures c.in_ok-block.was (refuses_unlike (missed_one (c.word.ensures _ Fixed.also refl refl) c.in_err-second.was) (λ p k n. (n, tt))))

pub behind_branch-counting-requires : goal.behind_branch-counting-requires
behind_branch-counting-requires t c =
    room (taken (c.word.ensures _ Fixed.also refl refl) c.in_ok-second.was) (omega arith) (omega arith)

pub behind_branch-block-requires-2 : goal.behind_branch-block-requires-2
behind_branch-block-requires-2 t c =
    let first = went_no_nearer c.args.self c.block.ensures c.in_ok-block.was in
    (omega (arith, c.decreases, first, counted_nearer (taken (c.word.ensures _ Fixed.also refl refl) c.in_ok-second.was) c.counting.ensures), tt)

pub behind_branch-returns-in_err-arm : goal.behind_branch-returns-in_err-arm
behind_branch-returns-in_err-arm t c =
    rw
    (exit _ c.from_residual-in_err-arm.ensures.1)
    (then _ c.block.ensures c.in_ok-block.was (onward (took_counted (taken (c.word.ensures _ Fixed.also refl refl) c.in_ok-second.was) _ c.counting.ensures refl refl refl) (stop _ c.block-2.ensures c.in_err-arm.was)))

pub behind_branch-loop-also-init : goal.behind_branch-loop-also-init
behind_branch-loop-also-init t c = (
  arrives_on (went _ c.block.ensures c.in_ok-block.was) (arrives_on (took_counted (taken (c.word.ensures _ Fixed.also refl refl) c.in_ok-second.was) _ c.counting.ensures refl refl refl) (went _ c.block-2.ensures c.in_ok-arm.was)),
  omega arith,
  omega arith,
)

pub behind_branch-returns : goal.behind_branch-returns
behind_branch-returns t c =
    onward
    c.loop-also.invariant.0
    (arrived (no_also_here (missed_one (c.word-in-loop-also.ensures _ Fixed.also refl refl) c.in_default.is).lacks))

pub behind_branch-returns-then-arms-eq8 : goal.behind_branch-returns-then-arms-eq8
behind_branch-returns-then-arms-eq8 t c =
    onward c.loop-also.invariant.0 (ninth_arm (taken (c.word-in-loop-also.ensures _ Fixed.also refl refl) c.in-Ok.is) c.if-arms-eq8.true c.refusal.ensures)

pub behind_branch-counting-requires-in-Ok : goal.behind_branch-counting-requires-in-Ok
behind_branch-counting-requires-in-Ok t c =
    room (taken (c.word-in-loop-also.ensures _ Fixed.also refl refl) c.in-Ok.is) (omega arith) (omega arith)

pub behind_branch-block-requires-in-Ok : goal.behind_branch-block-requires-in-Ok
behind_branch-block-requires-in-Ok t c =
    let first = c.loop-also.invariant.0 in
    (omega (arith, c.decreases, first.comes.forth, ap (length {A = ℕ}) first.same, counted_nearer (taken (c.word-in-loop-also.ensures _ Fixed.also refl refl) c.in-Ok.is) c.counting-in-Ok.ensures), tt)

pub behind_branch-returns-in_err-arm-2 : goal.behind_branch-returns-in_err-arm-2
behind_branch-returns-in_err-arm-2 t c =
    let few : c.loop-also.arms < 8 = omega (arith, c.if-arms-eq8.false, c.loop-also.invariant.2) in
    rw
    (exit _ c.from_residual-in_err-arm-2.ensures.1)
    (onward c.loop-also.invariant.0 (onward (next_arm (taken (c.word-in-loop-also.ensures _ Fixed.also refl refl) c.in-Ok.is) few c.counting-in-Ok.ensures) (stop _ c.block-in-Ok.ensures c.in_err-arm-2.was)))

pub behind_branch-loop-also-smaller : goal.behind_branch-loop-also-smaller
behind_branch-loop-also-smaller t c =
    let arm = went_no_nearer c.counting-in-Ok.result c.block-in-Ok.ensures c.in_ok-arm-2.was in
    omega (arith, arm, counted_nearer (taken (c.word-in-loop-also.ensures _ Fixed.also refl refl) c.in-Ok.is) c.counting-in-Ok.ensures)

pub behind_branch-loop-also-preserved : goal.behind_branch-loop-also-preserved
behind_branch-loop-also-preserved t c =
    let few : c.loop-also.arms < 8 = omega (arith, c.if-arms-eq8.false, c.loop-also.invariant.2) in (
      arrives_on
          c.loop-also.invariant.0
          (arrives_on (next_arm (taken (c.word-in-loop-also.ensures _ Fixed.also refl refl) c.in-Ok.is) few c.counting-in-Ok.ensures) (went _ c.block-in-Ok.ensures c.in_ok-arm-2.was)),
      omega arith,
      omega arith,
    )

pub statement-returns-in_default : goal.statement-returns-in_default
statement-returns-in_default t c =
    record { answers = no_statement c.args.self c.requires c.next-token.ensures.first c.in_default.not-Word c.refuse.ensures; past = tt }

pub statement-counting-requires : goal.statement-counting-requires
statement-counting-requires t c =
    room (moved_word c.next-token.ensures c.in-Word.is) (omega arith) (omega arith)

pub statement-counting-requires-in-Goto : goal.statement-counting-requires-in-Goto
statement-counting-requires-in-Goto t c =
    room (moved_word c.next-token.ensures c.in-Word.is) (omega arith) (omega arith)

pub statement-counting-requires-in-C : goal.statement-counting-requires-in-C
statement-counting-requires-in-C t c =
    room (moved_word c.next-token.ensures c.in-Word.is) (omega arith) (omega arith)

pub statement-counting-requires-in-Accept : goal.statement-counting-requires-in-Accept
statement-counting-requires-in-Accept t c =
    room (moved_word c.next-token.ensures c.in-Word.is) (omega arith) (omega arith)

pub statement-counting-requires-in-If : goal.statement-counting-requires-in-If
statement-counting-requires-in-If t c =
    room (moved_word c.next-token.ensures c.in-Word.is) (omega arith) (omega arith)

pub statement-counting-requires-in-Branch : goal.statement-counting-requires-in-Branch
statement-counting-requires-in-Branch t c =
    room (moved_word c.next-token.ensures c.in-Word.is) (omega arith) (omega arith)

pub statement-behind_if-requires : goal.statement-behind_if-requires
statement-behind_if-requires t c =
    (omega (arith, c.decreases, counted_nearer (moved_word c.next-token.ensures c.in-Word.is) c.counting-in-If.ensures), tt)

pub statement-behind_while-requires : goal.statement-behind_while-requires
statement-behind_while-requires t c =
    (omega (arith, c.decreases, nearer (moved_word c.next-token.ensures c.in-Word.is)), tt)

pub statement-behind_branch-requires : goal.statement-behind_branch-requires
statement-behind_branch-requires t c =
    (omega (arith, c.decreases, counted_nearer (moved_word c.next-token.ensures c.in-Word.is) c.counting-in-Branch.ensures), tt)

pub statement-returns-in-Move : goal.statement-returns-in-Move
statement-returns-in-Move t c =
    eats_counted (this_word c.next-token.ensures {m = Fixed.move} c.in-Word.is c.in-Move.is refl refl) c.counting.ensures refl refl refl (over _ (c.behind_move.ensures (alphabet_of c.args.scope.letters)))

pub statement-returns-in-Goto : goal.statement-returns-in-Goto
statement-returns-in-Goto t c =
    eats_counted (this_word c.next-token.ensures {m = Fixed.goto} c.in-Word.is c.in-Goto.is refl refl) c.counting-in-Goto.ensures refl refl refl (over _ (c.behind_goto.ensures (alphabet_of c.args.scope.letters)))

pub statement-returns-in-C : goal.statement-returns-in-C
statement-returns-in-C t c =
    eats_counted (this_word c.next-token.ensures {m = Fixed.c} c.in-Word.is c.in-C.is refl refl) c.counting-in-C.ensures refl refl refl (over _ (c.behind_c.ensures (alphabet_of c.args.scope.letters)))

pub statement-returns-in-Accept : goal.statement-returns-in-Accept
statement-returns-in-Accept t c =
    let ends = exactly (c.sign.ensures Fixed.semicolon refl) in
    ⊎_elim
    (λ e. eats_counted (this_word c.next-token.ensures {m = Fixed.accept} c.in-Word.is e refl refl) c.counting-in-Accept.ensures refl refl refl (over _ ends))
    (λ e. eats_counted (this_word c.next-token.ensures {m = Fixed.reject} c.in-Word.is e refl refl) c.counting-in-Accept.ensures refl refl refl (over _ ends))
    c.in-Accept.is

pub statement-returns-in-If : goal.statement-returns-in-If
statement-returns-in-If t c =
    eats_counted (this_word c.next-token.ensures {m = Fixed.if} c.in-Word.is c.in-If.is refl refl) c.counting-in-If.ensures refl refl refl c.behind_if.ensures

pub statement-returns-in-Branch : goal.statement-returns-in-Branch
statement-returns-in-Branch t c =
    eats_counted (this_word c.next-token.ensures {m = Fixed.branch} c.in-Word.is c.in-Branch.is refl refl) c.counting-in-Branch.ensures refl refl refl c.behind_branch.ensures

pub statement-returns-in-While : goal.statement-returns-in-While
statement-returns-in-While t c =
    eats (this_word c.next-token.ensures {m = Fixed.while} c.in-Word.is c.in-While.is refl refl) refl refl refl (over _ c.behind_while.ensures)

pub statement-returns-in_default-word : goal.statement-returns-in_default-word
statement-returns-in_default-word t c =
    let word = c.in_default-word in
    let other : OtherWord c.in-Word.word =
    record {
      not_move = word.not-Move;
      not_goto = word.not-Goto;
      not_c = word.not-C;
      not_accept = word.not-Accept;
      not_reject = word.not-Reject;
      not_if = word.not-If;
      not_while = word.not-While;
      not_branch = word.not-Branch;
    }
    in
    record { answers = no_statement_word c.args.self c.next-token.ensures.first c.in-Word.is other c.refuse-in_default-word.ensures; past = tt }

pub statements-loop-behind-init : goal.statements-loop-behind-init
statements-loop-behind-init t c =
    here c.args.self _ _

pub statements-returns-in-Ok : goal.statements-returns-in-Ok
statements-returns-in-Ok t c =
    arrived (arrives_on c.loop-behind.invariant (took_with (taken (c.sign.ensures Fixed.ends refl) c.in-Ok.is) _ refl refl refl))

pub statements-statement-requires : goal.statements-statement-requires
statements-statement-requires t c =
    let ahead = c.loop-behind.invariant in (
      omega (arith, c.decreases, ahead.comes.forth, ap (length {A = ℕ}) ahead.same),
      (missed_one (c.sign.ensures Fixed.ends refl) c.in_default.is).lacks,
    )

pub statements-returns-in_err-reader : goal.statements-returns-in_err-reader
statements-returns-in_err-reader t c =
    rw (exit _ c.from_residual.ensures.1) (onward c.loop-behind.invariant (stop [] c.statement.ensures.answers c.in_err-reader.was))

pub statements-loop-behind-preserved : goal.statements-loop-behind-preserved
statements-loop-behind-preserved t c =
    arrives_on c.loop-behind.invariant (went [] c.statement.ensures.answers c.in_ok-reader.was)
