-- `reader::answers::Reader::after_sign` meets its contract.
use mathlib.Core.Path.{sym, ap, ◌∙◌}
use denote.Enum.Bare.{same_true, same_false}
use Rattle.text.specs.contracts.Sign.{the_type}
use Rattle.atoms.specs.Atom.{refusal_of}
use Rattle.reader.proofs.Taken.{missing, no_sign, another_sign, this_sign}
use borrow.Author.Rules.{rules}
use Rattle.reader.proofs.answers.Reader.after_sign.Goals as goal

pub returns-in_default : goal.returns-in_default
returns-in_default c r h m spelt =
    record {
      right = missing h.first spelt (no_sign _ _ _ c.in_default.not-Sign) c.refuse.ensures;
    }

pub returns-then-eq : goal.returns-then-eq
returns-then-eq c r h m spelt =
    let told = same_true the_type (search rules) _ _ (sym c.eq.ensures ∙ c.if-eq.true) in
    record { right = this_sign h c.in-Sign.is told spelt }

pub returns-else-eq : goal.returns-else-eq
returns-else-eq c r h m spelt =
    let other = same_false the_type _ _ (sym c.eq.ensures ∙ c.if-eq.false) in
    record {
      right =
          missing
          h.first
          spelt
          (another_sign _ c.in-Sign.is other)
          (c.refuse-else-eq.ensures ∙ sym (ap refusal_of c.in-Sign.is));
    }
