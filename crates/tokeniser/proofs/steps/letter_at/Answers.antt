-- `tokeniser::steps::letter_at` meets its contract: each test rules a letter out, or all are passed.
use native.Mathlib.Omega.{arith}
use mathlib.Core.Path.{sym, ◌∙◌}
use Rattle.tokeniser.proofs.Standing.{letter_first, letter_short, letter_other, letter_open}
use Rattle.tokeniser.proofs.steps.letter_at.Goals as goal

pub returns-then-text-at-lt3 : goal.returns-then-text-at-lt3
returns-then-text-at-lt3 c =
    letter_short c.args.text.now c.args.at c.requires.0 c.requires.1 c.if-text-at-lt3.true

pub returns-then-not-is_letter : goal.returns-then-not-is_letter
returns-then-not-is_letter c =
    let other = sym c.is_letter.ensures ∙ c.if-not-is_letter.true in
    letter_other c.args.text.now c.args.at c.requires.0 c.requires.1 (omega arith) other

pub returns-then-text-at-ne39 : goal.returns-then-text-at-ne39
returns-then-text-at-ne39 c =
    let letter = sym c.is_letter.ensures ∙ c.if-not-is_letter.false in
    letter_open c.args.text.now c.args.at c.requires.0 c.requires.1 (omega arith) letter c.if-text-at-ne39.true

pub returns : goal.returns
returns c =
    let letter = sym c.is_letter.ensures ∙ c.if-not-is_letter.false in
    letter_first c.args.text.now c.args.at c.requires.0 c.requires.1 (omega arith) letter c.if-text-at-ne39.false
