-- `tokeniser::steps::step_at` meets its contract: each kind is told by its test, which its function requires.
use lib.ListN.{get_or}
use Rattle.tokeniser.specs.declared.kinds.Kind.TheVariants.{White, Other}
use Rattle.tokeniser.proofs.Sorting.{told}
use Rattle.tokeniser.proofs.Standing.{white_skips, other_bad}
use Rattle.tokeniser.proofs.steps.step_at.Goals as goal

pub returns-in-White : goal.returns-in-White
returns-in-White c =
    white_skips c.args.text.now c.args.at c.requires
    (told White (get_or c.args.text.now c.args.at 0) c.kind_of.ensures c.in-White.is)

pub returns-in-Other : goal.returns-in-Other
returns-in-Other c =
    other_bad c.args.text.now c.args.at c.requires
    (told Other (get_or c.args.text.now c.args.at 0) c.kind_of.ensures c.in-Other.is)
