-- `atoms::atom_at` meets its contract.
use mathlib.Core.Path.{refl}
use Rattle.atoms.specs.Atom.{by_read, by_c}
use Rattle.atoms.proofs.Said.{next, case_word, case_other, no_test, other_word}
use Rattle.atoms.proofs.atom_at.Goals as goal

pub returns-in_default : goal.returns-in_default
returns-in_default c =
    record { right = next c.token_at-token.ensures (case_other _ refl (no_test c.in_default.not-Word) c.refuse.ensures) }

pub returns-in-Read : goal.returns-in-Read
returns-in-Read c = record { right = next c.token_at-token.ensures (case_word _ c.in-Word.is c.in-Read.is by_read c.read_test_at.ensures) }

pub returns-in-C : goal.returns-in-C
returns-in-C c = record { right = next c.token_at-token.ensures (case_word _ c.in-Word.is c.in-C.is by_c c.counter_test_at.ensures) }

pub returns-in_default-word : goal.returns-in_default-word
returns-in_default-word c =
    record { right = next c.token_at-token.ensures (case_other _ c.in-Word.is (other_word c.in_default-word.not-Read c.in_default-word.not-C) c.refuse-in_default-word.ensures) }
