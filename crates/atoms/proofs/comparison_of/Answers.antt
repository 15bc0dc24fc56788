-- `atoms::comparison_of` meets its contract.
use mathlib.Core.Path.{refl}
use Rattle.atoms.specs.Atom.{same, differs}
use Rattle.atoms.proofs.Said.{case_sign, case_other, no_comparison, other_sign}
use Rattle.atoms.proofs.comparison_of.Goals as goal

pub returns-in_default : goal.returns-in_default
returns-in_default c = case_other _ refl (no_comparison c.in_default.not-Sign) c.refuse.ensures

pub returns-in-Equals : goal.returns-in-Equals
returns-in-Equals c = case_sign _ c.in-Sign.is c.in-Equals.is same refl

pub returns-in-Differs : goal.returns-in-Differs
returns-in-Differs c = case_sign _ c.in-Sign.is c.in-Differs.is differs refl

pub returns-in_default-sign : goal.returns-in_default-sign
returns-in_default-sign c =
    case_other _ c.in-Sign.is (other_sign c.in_default-sign.not-Equals c.in_default-sign.not-Differs) c.refuse-in_default-sign.ensures
