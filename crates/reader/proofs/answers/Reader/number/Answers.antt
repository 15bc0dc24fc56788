-- `reader::answers::Reader::number` meets its contract.
use mathlib.Core.Path.{refl, sym, ◌∙◌}
use Rattle.reader.proofs.Front.{front_number}
use Rattle.reader.proofs.Moves.{arrived, took_with, break}
use Rattle.reader.proofs.Missed.{no_number, refuses}
use Rattle.reader.proofs.Taken.{moved_number}
use Rattle.reader.proofs.answers.Reader.number.Goals as goal

pub returns-in_default : goal.returns-in_default
returns-in_default c = λ a. refuses c.next-token.ensures.first (λ p. no_number _ c.in_default.not-Number) c.refuse.ensures

pub returns-then-out_of_range : goal.returns-then-out_of_range
returns-then-out_of_range c =
    λ a. break (front_number c.next-token.ensures.first c.in-Number.is) refl (sym c.out_of_range.ensures ∙ c.if-out_of_range.true) refl

pub returns : goal.returns
returns c =
    λ a. arrived (took_with (moved_number c.next-token.ensures c.in-Number.is) _ refl (sym c.out_of_range.ensures ∙ c.if-out_of_range.false) refl)
