-- `reader::answers::Reader::letters` meets its contract: each turn of the loop takes a letter and a comma.
use Prim.Native.Nat.{ℕ}
use native.Mathlib.Omega.{arith}
use mathlib.Core.Path.{refl, ap}
use lib.ListN.{length}
use Rattle.rule.specs.Inside.Class.{Fixed}
use Rattle.atoms.proofs.Exits.{exit}
use Rattle.reader.proofs.Moves.{here, arrives_on, stops_on, took_with, nearer}
use Rattle.reader.proofs.Taken.{taken, missed_one, refuses_both}
use Rattle.reader.proofs.Listed.{with_went, with_stop, with_refused_on}
use Rattle.reader.proofs.answers.Reader.letters.Goals as goal

pub loop-behind-init : goal.loop-behind-init
loop-behind-init c = rw c.none-listed.ensures (here c.args.self _ _)

pub returns-in_err-behind : goal.returns-in_err-behind
returns-in_err-behind c =
    rw (exit _ c.from_residual.ensures.1) (record { right = stops_on c.loop-behind.invariant (with_stop c.letter.ensures c.in_err-behind.was) })

pub returns-in-Ok : goal.returns-in-Ok
returns-in-Ok c =
    let listed = arrives_on c.loop-behind.invariant (with_went c.letter.ensures c.in_ok-behind.was) in
    record { right = arrives_on listed (took_with (taken (c.after_sign.ensures _ c.next-token.ensures Fixed.close_list refl) c.in-Ok.is) _ refl refl refl) }

pub returns-in_err-reader : goal.returns-in_err-reader
returns-in_err-reader c =
    let listed = arrives_on c.loop-behind.invariant (with_went c.letter.ensures c.in_ok-behind.was) in
    rw
    (exit _ c.from_residual-in_err-reader.ensures.1)
    (with_refused_on
    listed
    (refuses_both
    (missed_one (c.after_sign-in-loop-behind.ensures _ c.next-token.ensures Fixed.comma refl) c.in_err-reader.was)
    (missed_one (c.after_sign.ensures _ c.next-token.ensures Fixed.close_list refl) c.in_default.is).lacks
    (λ p k l r. (l, (r, tt)))))

pub loop-behind-smaller : goal.loop-behind-smaller
loop-behind-smaller c =
    let listed = with_went c.letter.ensures c.in_ok-behind.was in
    let comma = taken (c.after_sign-in-loop-behind.ensures _ c.next-token.ensures Fixed.comma refl) c.in_ok-reader.was in
    omega (arith, nearer comma, listed.comes.forth, ap (length {A = ℕ}) listed.same)

pub loop-behind-preserved : goal.loop-behind-preserved
loop-behind-preserved c =
    let listed = arrives_on c.loop-behind.invariant (with_went c.letter.ensures c.in_ok-behind.was) in
    arrives_on listed (took_with (taken (c.after_sign-in-loop-behind.ensures _ c.next-token.ensures Fixed.comma refl) c.in_ok-reader.was) _ refl refl refl)
