-- `reader::answers::Reader::after_word` meets its contract.
use mathlib.Core.Path.{sym, ap, ◌∙◌}
use denote.Enum.Bare.{same_true, same_false}
use Rattle.text.specs.contracts.Word.{the_type}
use Rattle.atoms.specs.Atom.{refusal_of}
use Rattle.reader.proofs.Taken.{missing, no_word, another_word, this_word}
use borrow.Author.Rules.{rules}
use Rattle.reader.proofs.answers.Reader.after_word.Goals as goal

pub returns-in_default : goal.returns-in_default
returns-in_default c r h l m named spelt =
    record {
      right = missing h.first spelt (no_word _ _ l c.in_default.not-Word) c.refuse.ensures;
    }

pub returns-then-eq : goal.returns-then-eq
returns-then-eq c r h l m named spelt =
    let told = same_true the_type (search rules) _ _ (sym c.eq.ensures ∙ c.if-eq.true) in
    record { right = this_word h c.in-Word.is told named spelt }

pub returns-else-eq : goal.returns-else-eq
returns-else-eq c r h l m named spelt =
    let other = same_false the_type _ _ (sym c.eq.ensures ∙ c.if-eq.false) in
    record {
      right =
          missing
          h.first
          spelt
          (another_word h.first c.in-Word.is named other)
          (c.refuse-else-eq.ensures ∙ sym (ap refusal_of c.in-Word.is));
    }
