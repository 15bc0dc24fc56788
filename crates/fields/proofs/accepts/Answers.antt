-- The bit of state s, or none past the sixteen bytes. Assumes nothing.
use Rattle.std.proofs.Common.{ℕ, ◌/◌, ◌%◌, ◌^◌, ap, sym, rules, arith, ◌∙◌}
use borrow.Author.Tests.{eqb-true, eqb-false}
use Rattle.bits.proofs.Telling.{tells_no}
use Rattle.table.proofs.Reading.{accept_inside, accept_past}
use Rattle.fields.proofs.accepts.Goals as goal

pub returns-then-inside : goal.returns-then-inside
returns-then-inside c =
    let same = ap (λ (b : ℕ). b / 2 ^ (c.args.s % 8) % 2) (rw c.letters.ensures at c.byte_at.ensures) ∙ accept_inside _ _ c.if-inside.true in
    record { holds = λ e. sym same ∙ eqb-true _ 1 e; fails = λ e is. eqb-false _ 1 e (same ∙ is) }

pub returns-else-inside : goal.returns-else-inside
returns-else-inside c = tells_no (search rules) (λ is. omega (arith, accept_past c.args.image.now c.args.s c.if-inside.false))
