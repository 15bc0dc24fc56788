-- `atoms::symbol_of` meets its contract.
use mathlib.Core.Path.{refl}
use Rattle.atoms.specs.Atom.{a_letter, lend, rend}
use Rattle.atoms.proofs.Said.{case_stands, case_word, case_other, no_object, other_mark}
use Rattle.atoms.proofs.symbol_of.Goals as goal

pub returns-in_default-token : goal.returns-in_default-token
returns-in_default-token c = case_other _ refl (no_object c.in_default.not-Word c.in_default-token.not-Letter) c.refuse.ensures

pub returns-in_default : goal.returns-in_default
returns-in_default c = case_stands _ _ c.in-Letter.is a_letter refl

pub returns-in-Lend : goal.returns-in-Lend
returns-in-Lend c = case_word _ c.in-Word.is c.in-Lend.is lend refl

pub returns-in-Rend : goal.returns-in-Rend
returns-in-Rend c = case_word _ c.in-Word.is c.in-Rend.is rend refl

pub returns-in_default-word : goal.returns-in_default-word
returns-in_default-word c =
    case_other _ c.in-Word.is (other_mark c.in_default-word.not-Lend c.in_default-word.not-Rend) c.refuse-in_default-word.ensures
