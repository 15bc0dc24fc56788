-- `tokeniser::steps::number_at` meets its contract: the run ends where the number does.
use Rattle.bits.specs.Byte.{is_digit}
use Rattle.tokeniser.proofs.Standing.{number_first}
use Rattle.tokeniser.proofs.steps.number_at.Goals as goal

pub returns : goal.returns
returns c =
    number_first c.args.text.now c.args.at c.requires.0 c.requires.1 (c.end_of.ensures is_digit (λ b r e. e))
