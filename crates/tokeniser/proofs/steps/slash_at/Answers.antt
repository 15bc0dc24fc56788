-- `tokeniser::steps::slash_at` meets its contract: a second slash tells.
use mathlib.Core.Path.{sym, ◌∙◌}
use Rattle.tokeniser.specs.Inside.Tokenising.{in_comment}
use Rattle.tokeniser.proofs.Standing.{comment_skips, slash_bad}
use Rattle.tokeniser.proofs.steps.slash_at.Goals as goal

pub returns-then-byte_at-ne47 : goal.returns-then-byte_at-ne47
returns-then-byte_at-ne47 c =
    slash_bad c.args.text.now c.args.at c.requires.0 c.requires.1 (λ e. c.if-byte_at-ne47.true (c.byte_at.ensures ∙ e))

pub returns : goal.returns
returns c =
    let second = sym c.byte_at.ensures ∙ c.if-byte_at-ne47.false in
    comment_skips c.args.text.now c.args.at c.requires.0 c.requires.1 second (c.end_of.ensures in_comment (λ b r e. e))
