-- The cycle of calls of `condition` and `operand`. Each call is nearer to the text's end, and a condition's first operand is read from
-- where the condition is.
use native.Mathlib.Omega.{arith}
use mathlib.Core.Path.{refl}
use mathlib.Core.Logic.{⊎_elim}
use Rattle.rule.specs.Inside.Class.{Fixed}
use Rattle.atoms.proofs.Exits.{exit}
use Rattle.reader.proofs.Moves.{here, went, arrives_on, arrived, onward, stop, took_with, took_counted, nearer, either_room, either_nearer, went_no_nearer}
use Rattle.reader.proofs.Taken.{taken, missed_one, either_taken, neither_taken, refuses_all, unlike_it}
use Rattle.reader.proofs.Depth.{full, shallow_lem, one_deeper, same_letters, break_here}
use Rattle.reader.proofs.answers.Reader.+conditions.Goals as goal

pub condition-loop-read-init : goal.condition-loop-read-init
condition-loop-read-init t c = here c.args.self _ _

pub condition-returns-in_err-read : goal.condition-returns-in_err-read
condition-returns-in_err-read t c = rw (exit _ c.from_residual.ensures.1) (onward c.loop-read.invariant (stop _ c.operand.ensures c.in_err-read.was))

pub condition-returns-in-Ok : goal.condition-returns-in-Ok
condition-returns-in-Ok t c =
    let closes = taken (c.after_sign.ensures _ c.next-token.ensures Fixed.closes refl) c.in-Ok.is in
    arrived (arrives_on c.loop-read.invariant (arrives_on (went _ c.operand.ensures c.in_ok-read.was) (took_with closes _ refl refl refl)))

pub condition-returns-in_err-joined : goal.condition-returns-in_err-joined
condition-returns-in_err-joined t c =
    let closes = missed_one (c.after_sign.ensures _ c.next-token.ensures Fixed.closes refl) c.in_default.is in
    let none = neither_taken (c.after_sign-and.ensures _ c.next-token.ensures Fixed.and refl) (c.after_sign-in-loop-read.ensures _ c.next-token.ensures Fixed.or refl) c.or.ensures c.in_err-joined.was in
    let it = none.1 in
    rw
    (exit _ c.from_residual-in_err-joined.ensures.1)
    (onward
    c.loop-read.invariant
    (onward
    (went _ c.operand.ensures c.in_ok-read.was)
    (refuses_all it (λ p. (unlike_it it closes.lacks, (unlike_it it none.0, (unlike_it it it.lacks, tt)))))))

pub condition-counting-reader-requires : goal.condition-counting-reader-requires
condition-counting-reader-requires t c =
    let one = either_taken (c.after_sign-and.ensures _ c.next-token.ensures Fixed.and refl) (c.after_sign-in-loop-read.ensures _ c.next-token.ensures Fixed.or refl) c.or.ensures c.in_ok-joined.was in
    either_room one (omega arith) (omega arith)

pub condition-loop-read-smaller : goal.condition-loop-read-smaller
condition-loop-read-smaller t c =
    let one = either_taken (c.after_sign-and.ensures _ c.next-token.ensures Fixed.and refl) (c.after_sign-in-loop-read.ensures _ c.next-token.ensures Fixed.or refl) c.or.ensures c.in_ok-joined.was in
    let read = went_no_nearer c.loop-read.reader c.operand.ensures c.in_ok-read.was in
    omega (arith, read, either_nearer one c.counting-reader.ensures)

pub condition-loop-read-preserved : goal.condition-loop-read-preserved
condition-loop-read-preserved t c =
    let one = either_taken (c.after_sign-and.ensures _ c.next-token.ensures Fixed.and refl) (c.after_sign-in-loop-read.ensures _ c.next-token.ensures Fixed.or refl) c.or.ensures c.in_ok-joined.was in
    arrives_on
    c.loop-read.invariant
    (arrives_on
    (went _ c.operand.ensures c.in_ok-read.was)
    (⊎_elim
    (λ h. took_counted h _ c.counting-reader.ensures refl refl refl)
    (λ h. took_counted h _ c.counting-reader.ensures refl refl refl)
    one))

pub operand-returns-in_default-opened : goal.operand-returns-in_default-opened
operand-returns-in_default-opened t c =
    break_here (taken (c.after_sign.ensures _ c.next-token.ensures Fixed.opens refl) c.in-Ok.is) c.refusal.ensures refl (full c.args.scope c.opened.ensures c.in_default-opened.is) refl

pub operand-condition-requires : goal.operand-condition-requires
operand-condition-requires t c = (omega (arith, c.decreases, nearer (taken (c.after_sign.ensures _ c.next-token.ensures Fixed.opens refl) c.in-Ok.is)), tt)

pub operand-returns-in-Ok : goal.operand-returns-in-Ok
operand-returns-in-Ok t c =
    let opened = c.opened.ensures in
    let inner = c.in-Some.is in
    onward
    (took_with (taken (c.after_sign.ensures _ c.next-token.ensures Fixed.opens refl) c.in-Ok.is) _ refl (shallow_lem c.args.scope opened inner) refl)
    (rw (one_deeper c.args.scope opened inner, same_letters c.args.scope opened inner) at c.condition.ensures)

pub operand-returns-in_default-opened-2 : goal.operand-returns-in_default-opened-2
operand-returns-in_default-opened-2 t c =
    break_here
    (taken (c.after_sign-2.ensures _ c.next-token.ensures Fixed.not refl) c.in-Ok-after_sign.is)
    c.refusal-in_default-opened-2.ensures
    refl
    (full c.args.scope c.opened-in-Ok-after_sign.ensures c.in_default-opened-2.is)
    refl

pub operand-operand-requires : goal.operand-operand-requires
operand-operand-requires t c = (omega (arith, c.decreases, nearer (taken (c.after_sign-2.ensures _ c.next-token.ensures Fixed.not refl) c.in-Ok-after_sign.is)), tt)

pub operand-returns-in-Ok-after_sign : goal.operand-returns-in-Ok-after_sign
operand-returns-in-Ok-after_sign t c =
    let opened = c.opened-in-Ok-after_sign.ensures in
    let inner = c.in-Some-opened.is in
    onward
    (took_with (taken (c.after_sign-2.ensures _ c.next-token.ensures Fixed.not refl) c.in-Ok-after_sign.is) _ refl (shallow_lem c.args.scope opened inner) refl)
    (rw (one_deeper c.args.scope opened inner, same_letters c.args.scope opened inner) at c.operand.ensures)

pub operand-atom-requires : goal.operand-atom-requires
operand-atom-requires t c = (
  (missed_one (c.after_sign.ensures _ c.next-token.ensures Fixed.opens refl) c.in_default.is).lacks,
  (missed_one (c.after_sign-2.ensures _ c.next-token.ensures Fixed.not refl) c.in_default-after_sign.is).lacks,
)

pub operand-returns : goal.operand-returns
operand-returns t c = c.atom.ensures c.args.scope.depth
