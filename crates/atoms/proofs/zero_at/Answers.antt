-- `atoms::zero_at` meets its contract.
use mathlib.Core.Path.{refl, sym, ap, ◌∙◌}
use Rattle.atoms.specs.Atom.{a_number}
use Rattle.atoms.specs.Inside.Parts.{behind_zero}
use Rattle.atoms.proofs.Said.{next, case_stands, case_other, no_numeral}
use Rattle.atoms.proofs.zero_at.Goals as goal

pub returns-in_default : goal.returns-in_default
returns-in_default c =
    next c.token_at-token.ensures (case_other _ refl (no_numeral c.in_default.not-Number) c.refuse.ensures)

pub returns-then-not-is_zero : goal.returns-then-not-is_zero
returns-then-not-is_zero c =
    let out = sym c.is_zero.ensures ∙ c.if-not-is_zero.true in
    next c.token_at-token.ensures (case_stands _ _ c.in-Number.is a_number (sym (ap (behind_zero _) out)))

pub returns : goal.returns
returns c =
    let fits = sym c.is_zero.ensures ∙ c.if-not-is_zero.false in
    next c.token_at-token.ensures (case_stands _ _ c.in-Number.is a_number (sym (ap (behind_zero _) fits)))
