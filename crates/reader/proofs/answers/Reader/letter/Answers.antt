-- `reader::answers::Reader::letter` meets its contract.
use mathlib.Core.Path.{◌≡◌, refl, sym, ◌∙◌}
use mathlib.Core.Bool.{true}
use Rattle.rule.specs.Inside.Machine.{excess}
use Rattle.reader.specs.Inside.Answers.{alphabet_of}
use Rattle.reader.proofs.Front.{front_letter}
use Rattle.reader.proofs.Moves.{took_with, break}
use Rattle.reader.proofs.Missed.{no_letter, refuses}
use Rattle.reader.proofs.Taken.{moved_letter}
use Rattle.reader.proofs.Alphabet.{repeated, seventeenth, another, with_letter_lem}
use Rattle.reader.proofs.Listed.{with_refused}
use Rattle.reader.proofs.answers.Reader.letter.Goals as goal
use Rattle.reader.proofs.answers.Reader.letter.Goals.{then-has-via-then-has, then-has-via-else-has+then-listed-eq16}

pub returns-in_default : goal.returns-in_default
returns-in_default c = with_refused (refuses c.next-token.ensures.first (λ p. no_letter _ c.in_default.not-Letter) c.refuse.ensures)

pub returns-then-has : goal.returns-then-has
returns-then-has c =
    let listed = c.args.listed in
    let byte = c.in-Letter.byte in
    let over : excess byte (alphabet_of listed) ≡ true =
    elim c.then-has.branch [
      | then-has-via-then-has w ↦ repeated byte listed (sym c.has.ensures ∙ w.if-has.true)
      | then-has-via-else-has+then-listed-eq16 w ↦ seventeenth byte listed (sym c.has.ensures ∙ w.if-has.false) w.if-listed-eq16.true
    ]
    in
    with_refused (break (front_letter c.next-token.ensures.first c.in-Letter.is) refl over refl)

pub returns : goal.returns
returns c =
    let listed = c.args.listed in
    let byte = c.in-Letter.byte in
    record {
      right =
          took_with
          (moved_letter c.next-token.ensures c.in-Letter.is)
          _
          refl
          (another byte listed (sym c.has.ensures ∙ c.if-has.false) c.if-listed-eq16.false)
          (with_letter_lem byte listed c.with.result c.args.self.counts c.with.ensures);
    }
